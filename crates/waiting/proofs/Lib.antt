pub mod Turns
pub mod Frames
pub mod Requests
pub mod Bound
pub mod Starving
