pub mod SlipFace
