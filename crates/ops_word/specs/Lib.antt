pub mod Op
pub mod Named
