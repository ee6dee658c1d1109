pub mod Tables
pub mod Searches
