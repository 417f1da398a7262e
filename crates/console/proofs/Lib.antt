pub mod LineEnds
pub mod Figures
pub mod Fields
pub mod Spelling
pub mod InputLines
pub mod ReadBack
