pub mod Fields
pub mod SetUpLines
pub mod EventLines
pub mod Commands
