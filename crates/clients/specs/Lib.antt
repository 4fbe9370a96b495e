pub mod Talk
pub mod Steps
pub mod Conversation
