pub mod Setup
pub mod Testing
pub mod Laws
