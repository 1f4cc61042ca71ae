pub mod Loops
pub mod Places
pub mod Rules
pub mod One
