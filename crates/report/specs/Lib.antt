pub mod MessageBytes
pub mod Messages
