pub mod Digits
pub mod Minus
pub mod Laws
pub mod Meant
pub mod Every
