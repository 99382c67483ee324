pub mod Moves
pub mod Requests
pub mod Sending
pub mod Frames
pub mod Scenes
pub mod InPlace
