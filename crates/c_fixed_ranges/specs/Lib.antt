pub mod FixedFace
