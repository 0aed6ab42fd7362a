pub mod Layers
pub mod Answers
pub mod Said
pub mod Last
