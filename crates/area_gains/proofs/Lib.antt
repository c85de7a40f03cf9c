pub mod Merge
pub mod Marks
pub mod Passing
pub mod Rest
pub mod Turns
pub mod Plans
