pub mod Cuts
pub mod Trees
pub mod Sets
pub mod Shapes
pub mod Answers
pub mod Apart
pub mod Fewer
pub mod Calls
