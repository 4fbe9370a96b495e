pub mod Answering
pub mod Ready
pub mod History
pub mod Asked
