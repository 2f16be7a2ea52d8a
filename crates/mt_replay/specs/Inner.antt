-- What only the contracts between the crate's own calls cite: the proof of `replay` needs it, and its reader does not.
pub mod Reading
pub mod Head
pub mod Runs
pub mod Jobs
pub mod Locating
pub mod Locates
pub mod Soaks
pub mod Verifying
pub mod Comparing
pub mod Replaying
pub mod Verifies
