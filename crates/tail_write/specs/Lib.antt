pub mod Rewrite
pub mod Answers
pub mod Figures
