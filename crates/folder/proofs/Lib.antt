-- For proofs alone.
pub mod Frames
