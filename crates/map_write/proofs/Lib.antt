pub mod Bytes
pub mod Words
pub mod Layer
pub mod Entries
pub mod Answers
