pub mod Passes
pub mod Cuts
pub mod Words
pub mod Tests
