pub mod State
pub mod Table
pub mod Event
pub mod Kept
pub mod Laws
pub mod Tested
pub mod Example
pub mod Walks
