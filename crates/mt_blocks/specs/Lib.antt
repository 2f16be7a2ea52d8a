pub mod Accepted
pub mod Slices
pub mod Groups
pub mod Laws
pub mod Inner
