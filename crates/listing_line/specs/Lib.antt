pub mod Line
pub mod Spells
