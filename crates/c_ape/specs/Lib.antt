pub mod ApeFace
