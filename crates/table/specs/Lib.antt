pub mod Sums
pub mod Table
pub mod Limits
pub mod Faults
pub mod Walk
pub mod Law
