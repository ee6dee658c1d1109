pub mod Refusals
pub mod Spans
pub mod Scans
pub mod Readings
pub mod Places
pub mod Moves
pub mod Laws
pub mod Structures
