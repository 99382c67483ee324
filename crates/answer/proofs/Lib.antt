pub mod Arrays
pub mod Calls
pub mod Raising
pub mod Row
pub mod Settling
pub mod Ticking
