pub mod Utf8Face
