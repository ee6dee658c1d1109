pub mod Inverts
pub mod Runs
pub mod Walks
pub mod Tested
pub mod Wants
