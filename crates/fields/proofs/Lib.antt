pub mod Walk
pub mod Naming
pub mod Categories
pub mod Actions
pub mod Whole
pub mod Writing
