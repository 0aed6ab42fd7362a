pub mod Edits
pub mod Moves
pub mod Steps
pub mod Answers
