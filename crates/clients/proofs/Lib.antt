pub mod Later
pub mod Runs
pub mod Answering
