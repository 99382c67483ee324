pub mod Arriving
pub mod InPlace
