pub mod Latency
pub mod Plain
pub mod Memory
pub mod Detection
pub mod Alarms
pub mod Evidence
