pub mod Unbroken
pub mod Rewards
pub mod Room
pub mod Held
pub mod Copy
pub mod Loads
