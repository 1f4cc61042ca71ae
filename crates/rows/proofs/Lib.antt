pub mod Standing
pub mod Rows
pub mod One
