pub mod Tally
pub mod Tile
pub mod TileSteps
pub mod View
