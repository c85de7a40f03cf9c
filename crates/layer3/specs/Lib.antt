pub mod Header
pub mod Sizes
pub mod Bits
pub mod Fields
pub mod Walk
pub mod Figures
