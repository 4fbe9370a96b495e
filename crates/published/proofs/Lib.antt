pub mod Orders
pub mod Chains
pub mod Adding
pub mod Steps
pub mod Searches
pub mod Lines
