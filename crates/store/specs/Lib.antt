pub mod Rings
pub mod Places
