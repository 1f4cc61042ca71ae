pub mod Steps
pub mod Standing
pub mod Elements
pub mod Judged
pub mod Laws
pub mod One
