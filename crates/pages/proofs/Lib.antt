pub mod Comparing
pub mod Words
pub mod Counting
pub mod Storing
pub mod Laws
pub mod One
