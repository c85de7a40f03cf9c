pub mod Rewriting
pub mod Plans
