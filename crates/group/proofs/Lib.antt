pub mod Found
pub mod Replying
pub mod Refusing
pub mod Seeing
