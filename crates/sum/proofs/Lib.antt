pub mod Shifts
pub mod Pieces
