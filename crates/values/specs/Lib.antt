pub mod Numbers
pub mod Visits
pub mod Orders
pub mod Codes
