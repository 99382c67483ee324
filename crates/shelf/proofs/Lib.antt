pub mod Finding
pub mod Hearing
