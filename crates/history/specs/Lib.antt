pub mod Refusals
pub mod Calls
pub mod Answers
pub mod Histories
pub mod Refusing
pub mod Models
pub mod Worked
