pub mod Opening
pub mod Journal
pub mod Rulings
pub mod Lawful
