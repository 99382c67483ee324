pub mod Isolation
pub mod Fates
pub mod Damage
pub mod Loaded
pub mod Held
pub mod Frames
pub mod Clean
