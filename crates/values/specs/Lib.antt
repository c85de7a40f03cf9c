pub mod Undo
pub mod Range
pub mod Stored
