pub mod Lines
pub mod Cells
pub mod Steps
pub mod Memories
pub mod Registries
pub mod Uptos
