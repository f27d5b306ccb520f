pub mod Views
pub mod Places
pub mod Buckets
pub mod Gathering
pub mod States
pub mod Reductions
