pub mod Held
pub mod Batches
pub mod Answers
pub mod Theorems
