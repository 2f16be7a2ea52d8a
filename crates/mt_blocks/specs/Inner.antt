-- What proofs of the crates above cite.
pub mod Ticks
