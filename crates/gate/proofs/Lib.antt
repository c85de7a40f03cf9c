pub mod Clean
pub mod Gates
pub mod Headed
