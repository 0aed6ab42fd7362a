pub mod Turns
pub mod Sized
pub mod First
pub mod Answers
pub mod Accepted
pub mod Pairs
