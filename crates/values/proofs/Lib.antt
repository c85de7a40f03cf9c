pub mod Sums
pub mod ReadBack
pub mod Texts
