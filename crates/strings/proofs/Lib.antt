pub mod Clearing
pub mod One
