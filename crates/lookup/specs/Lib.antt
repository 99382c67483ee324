pub mod Record
pub mod Lookup
