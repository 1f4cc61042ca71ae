mod Meaning
mod Judging
mod Putting
pub mod One
