pub mod Block
pub mod Pieces
