pub mod Standing
pub mod Equations
pub mod Writing
pub mod Recovering
pub mod Reducing
pub mod Counting
pub mod Cases
pub mod Claims
