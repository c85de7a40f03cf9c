pub mod Choice
pub mod Bytes
pub mod Write
pub mod Le
