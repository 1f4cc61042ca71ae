pub mod Editor
pub mod Rows
pub mod Own
pub mod Edited
pub mod One
