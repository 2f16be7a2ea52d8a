pub mod Breaking
pub mod Answering
pub mod Telling
