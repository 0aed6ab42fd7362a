pub mod Reached
pub mod Lent
pub mod Again
pub mod Calls
pub mod Stores
pub mod OneWalk
pub mod Tested
