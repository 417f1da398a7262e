pub mod Bits
pub mod Flags
pub mod Marking
pub mod Dropping
pub mod Numbered
pub mod Decomposed
pub mod Spaces
