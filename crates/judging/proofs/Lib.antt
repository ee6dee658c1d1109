pub mod Judging
pub mod Hexadecimal
pub mod Uploads
