mod Given
pub mod One
