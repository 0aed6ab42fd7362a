pub mod Bits
pub mod Moves
pub mod Theorems
