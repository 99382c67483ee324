pub mod Outlets
pub mod Hearing
pub mod Taking
pub mod Figures
