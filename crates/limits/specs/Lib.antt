pub mod Records
pub mod Firsts
pub mod Limits
pub mod Tallies
