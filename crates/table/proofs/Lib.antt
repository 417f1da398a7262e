pub mod Walks
pub mod WalkLaw
