pub mod Words
pub mod Lowest
pub mod Header
