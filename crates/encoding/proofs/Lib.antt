mod Places
mod Taking
mod Turns
mod Marks
mod Ways
pub mod One
