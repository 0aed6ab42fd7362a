pub mod Naming
pub mod Theorems
