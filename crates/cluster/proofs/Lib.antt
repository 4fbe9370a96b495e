pub mod Bulks
pub mod Queues
pub mod Confirming
pub mod Handed
pub mod Refreshes
pub mod Opened
pub mod Owned
