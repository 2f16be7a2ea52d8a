pub mod Misses
pub mod BitModel
