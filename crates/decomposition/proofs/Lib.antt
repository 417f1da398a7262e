pub mod Words
pub mod Marked
pub mod Searches
pub mod Drops
pub mod Numbers
pub mod Decomposing
