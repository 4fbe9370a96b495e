pub mod Pieces
pub mod Kept
