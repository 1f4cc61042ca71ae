mod Text
mod Lines
pub mod Outcome
pub mod Printed
pub mod Examples
pub mod Room
pub mod Longest
pub mod One
