pub mod Keys
pub mod Marches
pub mod Names
pub mod Parts
pub mod Places
pub mod Subjects
