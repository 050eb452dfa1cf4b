pub mod Feeds
pub mod Splits
pub mod Tellings
