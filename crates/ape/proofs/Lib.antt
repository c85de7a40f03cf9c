pub mod Reading
pub mod Sizing
pub mod Copying
pub mod Files
pub mod Preamble
pub mod Tail
