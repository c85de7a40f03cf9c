pub mod Mapping
pub mod Ranges
