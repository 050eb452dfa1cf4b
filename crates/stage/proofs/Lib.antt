pub mod Listings
pub mod Leads
