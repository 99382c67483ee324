pub mod Truth
pub mod Laws
pub mod Fates
pub mod Leaves
pub mod Headers
pub mod Sheet
