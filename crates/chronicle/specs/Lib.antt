pub mod Written
pub mod Log
pub mod Ledger
pub mod Memory
pub mod Registered
