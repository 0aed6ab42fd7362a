pub mod Average
pub mod Search
