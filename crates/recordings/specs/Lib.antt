pub mod Steps
pub mod Known
