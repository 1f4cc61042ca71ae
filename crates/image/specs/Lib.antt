pub mod Laying
pub mod Drafting
