pub mod Stretches
pub mod Sieves
pub mod Tallies
pub mod Shows
pub mod Tiles
pub mod Surfaces
pub mod Questions
