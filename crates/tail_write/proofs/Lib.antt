pub mod Sent
pub mod Placing
pub mod Planning
pub mod Figures
