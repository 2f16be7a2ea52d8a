pub mod Escaped
pub mod Places
pub mod Laws
