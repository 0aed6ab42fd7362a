pub mod Edit
pub mod Calls
pub mod Steps
