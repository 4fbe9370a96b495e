pub mod Entries
pub mod Ruled
