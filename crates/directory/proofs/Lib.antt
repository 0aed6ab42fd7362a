pub mod Answers
pub mod Accepted
pub mod History
pub mod Header
pub mod Witnesses
