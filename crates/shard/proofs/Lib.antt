pub mod Found
pub mod Promotions
pub mod Seen
pub mod Failures
pub mod Histories
pub mod Mappings
