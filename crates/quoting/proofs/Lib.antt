pub mod Models
pub mod Replies
pub mod Answering
pub mod Opening
pub mod Walking
