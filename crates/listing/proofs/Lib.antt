pub mod Printing
pub mod Lining
pub mod Sane
pub mod Tags
