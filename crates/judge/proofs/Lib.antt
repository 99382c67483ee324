pub mod Owning
pub mod Chains
