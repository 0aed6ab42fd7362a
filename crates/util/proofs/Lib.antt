pub mod Bits
pub mod Places
pub mod Same
pub mod Count
pub mod Lowest
pub mod Zeros
