pub mod Arms
pub mod Held
pub mod Uncut
pub mod Words
