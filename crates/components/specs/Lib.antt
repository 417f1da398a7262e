pub mod Below
pub mod EndComponent
pub mod Inside
pub mod Nodes
pub mod Depth
pub mod Law
pub mod Worked
