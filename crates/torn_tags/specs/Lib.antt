pub mod Claims
pub mod Torn
