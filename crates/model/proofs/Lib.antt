pub mod Unbroken
pub mod Copies
pub mod Extremes
pub mod Loading
pub mod Pushes
pub mod Still
