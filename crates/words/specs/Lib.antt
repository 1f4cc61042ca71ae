pub mod Code40
pub mod Meaning
pub mod Calls
pub mod Demands
