pub mod Requests
pub mod Stores
pub mod Board
pub mod Sound
pub mod Watched
pub mod Watching
