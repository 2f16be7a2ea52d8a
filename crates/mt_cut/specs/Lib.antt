pub mod Holds
pub mod Cuts
pub mod Runs
pub mod Atomic
pub mod Example
