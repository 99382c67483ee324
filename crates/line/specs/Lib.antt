pub mod Words
pub mod Ranged
pub mod Units
pub mod Lines
pub mod Ranges
