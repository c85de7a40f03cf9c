pub mod Gate
pub mod Calls
pub mod Figures
pub mod Lengths
