pub mod Plans
pub mod InPlace
