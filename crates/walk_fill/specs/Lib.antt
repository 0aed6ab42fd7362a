pub mod Fill
pub mod Steps
