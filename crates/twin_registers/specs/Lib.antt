pub mod Tallies
pub mod Asking
