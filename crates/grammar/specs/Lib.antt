pub mod Bytes
pub mod Ahead
pub mod Grammar
pub mod Items
pub mod Tags
pub mod Threads
pub mod Theorems
