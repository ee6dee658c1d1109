pub mod Lying
pub mod Opened
pub mod Orderly
pub mod Yielding
pub mod Yielded
pub mod Uploads
