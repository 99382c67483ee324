pub mod Hands
pub mod Collects
pub mod InPlace
