pub mod Calls
pub mod Answers
