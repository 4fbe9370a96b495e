pub mod Publishing
pub mod Refreshing
pub mod Points
pub mod Index
