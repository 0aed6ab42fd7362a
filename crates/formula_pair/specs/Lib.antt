pub mod Pair
pub mod Steps
