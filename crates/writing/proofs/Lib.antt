pub mod Writer
pub mod One
