pub mod Plans
pub mod Setting
pub mod Again
