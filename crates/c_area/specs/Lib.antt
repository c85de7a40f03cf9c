pub mod AreaFace
