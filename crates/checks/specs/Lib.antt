pub mod Stored
pub mod Checks
