pub mod Place
pub mod Calls
