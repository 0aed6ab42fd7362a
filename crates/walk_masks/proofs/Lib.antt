pub mod Masks
pub mod Prefixes
