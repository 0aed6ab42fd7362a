pub mod Calls
pub mod Tree
