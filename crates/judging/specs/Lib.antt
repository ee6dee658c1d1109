pub mod Inputs
pub mod Judging
pub mod Lines
