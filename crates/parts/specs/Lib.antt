pub mod Openings
pub mod Shapes
