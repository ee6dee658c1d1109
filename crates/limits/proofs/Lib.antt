pub mod Firsts
pub mod Tallied
pub mod Places
