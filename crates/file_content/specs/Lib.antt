pub mod Content
pub mod Pieces
