pub mod Views
pub mod Needs
pub mod Visits
pub mod Orders
pub mod Codes
pub mod Rules
pub mod Sight
pub mod Places
