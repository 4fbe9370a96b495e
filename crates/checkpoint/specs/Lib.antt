pub mod Numbers
pub mod Span
pub mod Window
