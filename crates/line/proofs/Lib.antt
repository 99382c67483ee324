pub mod Numbers
pub mod Targets
pub mod Modes
pub mod UnitRests
pub mod Rests
pub mod Ranges
pub mod Examples
