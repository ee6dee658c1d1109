pub mod Homes
pub mod Slots
pub mod Tables
pub mod Meaning
