pub mod Told
pub mod Lines
pub mod Enact
pub mod Served
