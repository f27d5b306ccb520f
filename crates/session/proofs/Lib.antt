pub mod Restarts
pub mod Founds
pub mod Settles
pub mod Copied
pub mod Drives
