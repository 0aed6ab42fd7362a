pub mod Numbers
pub mod Used
