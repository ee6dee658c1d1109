pub mod Verdicts
pub mod Against
pub mod Settled
pub mod Standing
