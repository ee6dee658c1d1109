pub mod Firsts
pub mod Steps
pub mod Left
