pub mod Right
pub mod Entries
pub mod Layer
pub mod Answers
