pub mod Amounts
pub mod Texts
pub mod NoTie
pub mod ReadBack
