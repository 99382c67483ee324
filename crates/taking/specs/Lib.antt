pub mod Takes
pub mod InPlace
