pub mod Reader
pub mod One
