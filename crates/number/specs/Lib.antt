pub mod Trim
pub mod Fields
pub mod Reading
