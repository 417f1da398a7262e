pub mod Spaces
pub mod States
pub mod Replays
