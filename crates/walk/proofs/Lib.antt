pub mod Cursors
pub mod Turns
pub mod Answers
