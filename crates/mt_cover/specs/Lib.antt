pub mod Coverage
pub mod Further
pub mod Missed
pub mod Behaviour
pub mod Detection
pub mod Inner
