pub mod Hits
pub mod Calls
pub mod Lists
