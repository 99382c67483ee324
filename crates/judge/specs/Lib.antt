pub mod Verdicts
pub mod Owners
pub mod Judge
pub mod Standing
