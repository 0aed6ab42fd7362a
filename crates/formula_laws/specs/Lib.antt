pub mod Members
pub mod Sides
pub mod Walks
