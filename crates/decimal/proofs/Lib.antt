pub mod Lists
pub mod Places
pub mod ReadBack
pub mod Texts
