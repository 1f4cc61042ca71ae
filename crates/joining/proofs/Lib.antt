mod Pieces
mod Digits
mod Good
mod Ways
pub mod One
