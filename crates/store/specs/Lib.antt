pub mod Layout
pub mod Word
pub mod Build
pub mod Answer
