-- What only the contracts between the crate's own calls cite.
pub mod Events
