pub mod Arbitration
pub mod Examples
