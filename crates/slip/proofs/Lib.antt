pub mod Lines
pub mod BothWays
