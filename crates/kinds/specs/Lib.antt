pub mod Registers
pub mod Lists
