pub mod Written
pub mod Accepted
pub mod Stores
pub mod Counts
pub mod Theorems
pub mod Later
pub mod Asked
