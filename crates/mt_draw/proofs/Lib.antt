pub mod Entities
pub mod PlaceLemmas
