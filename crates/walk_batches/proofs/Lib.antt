pub mod Batches
pub mod Left
