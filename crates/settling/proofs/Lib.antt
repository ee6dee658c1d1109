pub mod Deeds
pub mod Lowest
pub mod Stands
pub mod Kept
pub mod Histories
mod Trying
mod Room
