pub mod Lines
pub mod Answers
pub mod Inputs
pub mod Commands
pub mod Spelling
