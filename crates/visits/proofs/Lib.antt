pub mod Counting
pub mod Streams
