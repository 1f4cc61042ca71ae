pub mod Heads
pub mod Walking
pub mod Laws
pub mod One
