pub mod Figures
pub mod Exact
pub mod Parts
pub mod Counting
pub mod Dues
pub mod Chronology
