pub mod Scan
pub mod Pieces
pub mod Left
