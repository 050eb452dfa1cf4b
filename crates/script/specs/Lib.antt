pub mod Readings
pub mod Sheets
