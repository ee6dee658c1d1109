pub mod Ids
pub mod Numbers
