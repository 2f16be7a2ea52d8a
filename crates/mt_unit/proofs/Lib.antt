pub mod Bytes
pub mod Carrying
pub mod Checksums
pub mod FlsCells
pub mod Making
pub mod RamCells
pub mod Ranges
