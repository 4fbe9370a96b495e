pub mod Bools
pub mod Turns
pub mod Unions
pub mod QueryViews
pub mod Postings
pub mod Wholes
