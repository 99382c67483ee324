pub mod Tabulate
pub mod Regions
pub mod Fits
pub mod Grown
pub mod Memory
pub mod Shelved
pub mod Agree
pub mod Members
