pub mod Wording
pub mod Spanning
pub mod Looking
pub mod Rising
pub mod Filling
