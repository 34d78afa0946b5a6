pub mod Shapes
pub mod Nodes
pub mod Windows
pub mod Measures
pub mod Grows
