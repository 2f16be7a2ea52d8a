pub mod Numbers
pub mod Script
pub mod Source
pub mod Summary
pub mod Config
pub mod Inner
