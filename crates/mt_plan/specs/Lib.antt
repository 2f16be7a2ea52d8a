pub mod Lists
pub mod Plan
pub mod Rows
pub mod Cursor
pub mod Steady
pub mod Kept
pub mod Accesses
