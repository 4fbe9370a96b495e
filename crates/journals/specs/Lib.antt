pub mod Items
pub mod Asked
pub mod Answered
pub mod Entries
pub mod Members
