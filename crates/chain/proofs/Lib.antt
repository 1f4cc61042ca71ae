pub mod Places
pub mod Formed
pub mod Laws
pub mod Piece
pub mod Turns
pub mod One
