-- What only contracts between the functions of this crate cite.
pub mod Places
pub mod Listing
pub mod Lanes
pub mod Located
