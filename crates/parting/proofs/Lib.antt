pub mod Seeking
pub mod Finding
pub mod Cutting
pub mod Numbers
pub mod Saying
pub mod Taking
pub mod One
