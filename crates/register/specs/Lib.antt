pub mod Identifiers
pub mod Keys
pub mod Refills
pub mod Categories
pub mod Entries
pub mod Contents
pub mod Requests
