pub mod Lines
pub mod Least
pub mod Whole
pub mod Ends
pub mod Pieces
