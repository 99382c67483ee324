pub mod Turns
pub mod Notes
pub mod Moves
pub mod Moving
pub mod Decoded
pub mod Sends
pub mod InPlace
pub mod Bits
