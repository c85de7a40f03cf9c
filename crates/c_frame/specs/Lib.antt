pub mod FrameFace
