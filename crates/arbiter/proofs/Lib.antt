pub mod Order
pub mod Requests
pub mod Grants
pub mod Witness
