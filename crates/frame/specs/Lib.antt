pub mod Tail
pub mod Gain
pub mod Steps
