pub mod Under
pub mod Calls
pub mod Rest
pub mod Walks
