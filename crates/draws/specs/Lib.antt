pub mod Mode
pub mod Strips
pub mod Fits
pub mod Boxes
