pub mod Text
pub mod Digits
pub mod Hex
pub mod Writing
pub mod Decimals
pub mod Fnv
pub mod Published
pub mod Slips
