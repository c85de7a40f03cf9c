pub mod Rule
pub mod Laws
pub mod Boundary
pub mod Maximal
pub mod Steps
pub mod Turn
pub mod Stretch
