pub mod Records
pub mod Orderly
pub mod Parts
pub mod Reading
pub mod Ahead
