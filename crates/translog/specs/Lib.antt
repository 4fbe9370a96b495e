pub mod Device
pub mod Memory
pub mod Fault
pub mod Frames
pub mod Kept
pub mod Pieces
