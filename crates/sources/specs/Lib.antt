pub mod Rows
pub mod Bands
pub mod Opposites
