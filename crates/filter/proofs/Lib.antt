pub mod Placements
