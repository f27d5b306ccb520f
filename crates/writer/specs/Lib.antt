pub mod Bytes
pub mod Patterns
pub mod Output
pub mod Expansion
pub mod Writing
pub mod Parts
pub mod ReadBack
