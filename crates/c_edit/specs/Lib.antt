pub mod EditFace
