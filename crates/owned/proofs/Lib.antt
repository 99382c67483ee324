pub mod Few
pub mod Lending
