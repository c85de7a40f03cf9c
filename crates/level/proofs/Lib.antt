pub mod Levelling
pub mod Room
