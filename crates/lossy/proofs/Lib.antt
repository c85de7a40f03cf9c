pub mod Lists
pub mod Laws
pub mod Boundary
pub mod Sizes
pub mod Samples
pub mod Runs
pub mod Written
