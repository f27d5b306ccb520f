pub mod Fits
pub mod Walk
pub mod Pairs
