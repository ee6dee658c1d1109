pub mod Held
pub mod Reached
pub mod Moved
pub mod Tables
pub mod Empty
