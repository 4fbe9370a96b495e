pub mod Decisions
pub mod Faults
pub mod Given
pub mod Orders
pub mod Replays
