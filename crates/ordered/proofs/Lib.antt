mod Searching
pub mod Changes
pub mod Laws
