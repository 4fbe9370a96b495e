pub mod Steps
pub mod Growing
pub mod Refusing
pub mod Refreshing
pub mod Pointing
