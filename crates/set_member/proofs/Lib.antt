pub mod Spots
pub mod Places
pub mod Answers
pub mod Tested
