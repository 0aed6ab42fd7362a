pub mod Tree
pub mod Codes
pub mod Check
pub mod Steps
pub mod Formula
