pub mod Same
pub mod Places
pub mod Wrote
pub mod Numbers
pub mod Halves
pub mod All
