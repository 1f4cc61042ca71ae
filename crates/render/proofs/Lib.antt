pub mod Storing
pub mod Lengths
pub mod Carrying
pub mod Rendering
pub mod One
