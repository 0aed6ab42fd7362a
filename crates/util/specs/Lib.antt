pub mod Word
pub mod Row
pub mod Outcome
