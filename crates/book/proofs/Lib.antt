pub mod Sound
pub mod Reading
pub mod Settled
