pub mod Spaces
pub mod Digits
pub mod Limits
pub mod Cuts
pub mod Signs
