pub mod Bits
pub mod Calling
pub mod Placed
pub mod Told
