pub mod Walk
pub mod Calls
pub mod Steps
pub mod Layers
pub mod Checked
