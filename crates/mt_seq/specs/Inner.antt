-- What only contracts between the functions of this crate cite.
pub mod Ground
pub mod Own
