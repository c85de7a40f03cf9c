pub mod SoundFace
