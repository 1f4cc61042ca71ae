pub mod Places
pub mod Sets
