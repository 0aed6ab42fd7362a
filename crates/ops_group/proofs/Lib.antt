pub mod Named
pub mod Loops
