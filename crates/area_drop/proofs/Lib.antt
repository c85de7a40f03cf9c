pub mod Dropping
pub mod Plans
pub mod Again
