pub mod Tag
pub mod Answers
