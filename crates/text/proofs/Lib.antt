pub mod Letters
pub mod One
