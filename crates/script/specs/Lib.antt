pub mod Heads
pub mod Asked
pub mod Lines
pub mod Scripts
pub mod Records
