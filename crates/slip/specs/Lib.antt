pub mod Slip
