pub mod Parts
pub mod Forcing
pub mod Tries
pub mod Courses
pub mod Theorems
pub mod Table
