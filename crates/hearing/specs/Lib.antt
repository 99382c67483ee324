pub mod Hearings
pub mod InPlace
