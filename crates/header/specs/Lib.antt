pub mod Fields
pub mod Check
