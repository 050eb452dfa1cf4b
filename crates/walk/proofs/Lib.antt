pub mod Walks
pub mod Counts
pub mod Listings
