pub mod Splitting
pub mod Zeros
pub mod Shown
pub mod Joining
pub mod Reading
pub mod RowReading
