pub mod Parts
pub mod SetDigits
pub mod Elements
pub mod Calls
pub mod Meaning
pub mod Demands
