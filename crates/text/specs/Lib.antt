pub mod Refusals
pub mod Joined
pub mod Lent
