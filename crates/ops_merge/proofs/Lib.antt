pub mod Parts
pub mod Tree
pub mod Leaf
pub mod Steps
pub mod Whole
pub mod Answers
pub mod Theorems
