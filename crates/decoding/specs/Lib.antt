pub mod Alphabet
pub mod Counting
