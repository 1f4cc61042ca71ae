pub mod Scanning
pub mod Heads
