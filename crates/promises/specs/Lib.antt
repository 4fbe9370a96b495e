pub mod Promises
pub mod Copies
pub mod Runs
