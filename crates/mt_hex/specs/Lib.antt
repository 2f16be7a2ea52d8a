pub mod Hex
pub mod Digits
pub mod Laws
