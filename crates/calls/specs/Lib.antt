pub mod Calls
pub mod Heads
