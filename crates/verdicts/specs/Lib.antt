pub mod Sights
pub mod Faults
pub mod Walks
pub mod Reading
pub mod Broken
pub mod Laws
pub mod Uploads
