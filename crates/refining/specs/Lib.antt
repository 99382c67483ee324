pub mod Refines
pub mod Cards
