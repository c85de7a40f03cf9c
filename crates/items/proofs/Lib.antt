pub mod Area
pub mod Walk
pub mod Located
pub mod Places
pub mod Finding
pub mod ItemLaws
pub mod Loops
