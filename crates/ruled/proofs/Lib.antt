pub mod Rulings
pub mod Gathering
