pub mod Refused
pub mod Replies
pub mod Models
pub mod Runs
pub mod Consoles
