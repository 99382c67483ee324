pub mod State
pub mod Lanes
pub mod Numbered
pub mod Soundings
pub mod Examples
pub mod Admission
