pub mod Examples
pub mod Cases
pub mod Fixed
