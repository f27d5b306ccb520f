pub mod Dimacs
pub mod Converted
