pub mod Blocks
pub mod Marks
pub mod Moves
pub mod Settings
pub mod Walks
pub mod Tested
pub mod ServiceLemmas
