pub mod Numbers
pub mod Stored
pub mod Checking
pub mod Whole
