pub mod Lines
pub mod Visits
pub mod Answers
pub mod Sessions
