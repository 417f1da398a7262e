pub mod Refusing
pub mod Histories
pub mod Worked
