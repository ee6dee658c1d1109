pub mod Sameness
mod OneAnswer
pub mod Holding
