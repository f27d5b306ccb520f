pub mod System
pub mod Session
pub mod Law
pub mod Worked
