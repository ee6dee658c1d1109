pub mod Dice
pub mod Keys
