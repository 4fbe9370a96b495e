pub mod Bits
pub mod Sets
pub mod Spans
pub mod Windows
pub mod WordBits
