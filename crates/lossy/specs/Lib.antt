pub mod Lossy
pub mod Write
