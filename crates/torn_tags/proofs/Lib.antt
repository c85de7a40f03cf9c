pub mod After
pub mod Torn
