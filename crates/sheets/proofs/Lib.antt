pub mod Gathered
pub mod Lefts
pub mod Tabled
