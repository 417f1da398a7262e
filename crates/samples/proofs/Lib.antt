pub mod Numbered
pub mod Fair
pub mod Added
pub mod Large
pub mod Exported
