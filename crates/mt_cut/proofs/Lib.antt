pub mod Sets
pub mod Greedy
pub mod Ahead
pub mod Places
pub mod Largest
pub mod Bounds
pub mod Example
