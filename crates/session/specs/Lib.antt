pub mod Phases
pub mod Props
pub mod Ends
pub mod Sessions
pub mod Calls
pub mod Drives
