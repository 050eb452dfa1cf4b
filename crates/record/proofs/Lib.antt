pub mod Changes
pub mod Nestings
pub mod Sounds
