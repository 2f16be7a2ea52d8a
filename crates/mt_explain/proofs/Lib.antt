pub mod Heads
pub mod LineLemmas
pub mod MarkLemmas
pub mod Scripts
pub mod Statuses
