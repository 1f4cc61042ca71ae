pub mod Drafts
pub mod Contents
pub mod OwnerForms
pub mod Laws
pub mod Placing
pub mod One
