pub mod Forms
pub mod Replayed
