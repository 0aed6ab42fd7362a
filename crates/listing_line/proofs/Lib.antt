pub mod Parsing
pub mod Spelled
pub mod Meaning
