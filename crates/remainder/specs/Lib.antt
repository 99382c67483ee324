pub mod Bits
pub mod Division
