pub mod Contents
pub mod Judging
pub mod Events
pub mod Receiving
pub mod Sights
pub mod Inputs
pub mod Uses
pub mod Samples
