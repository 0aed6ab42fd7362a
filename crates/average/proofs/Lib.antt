pub mod Tally
pub mod Descent
pub mod Average
