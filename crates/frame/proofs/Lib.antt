pub mod Gains
pub mod Tails
pub mod GainLists
