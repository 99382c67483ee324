pub mod Waiting
pub mod Streets
pub mod Arbiters
