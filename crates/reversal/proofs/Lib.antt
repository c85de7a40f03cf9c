pub mod Levels
pub mod Calls
pub mod Demand
pub mod Sample
