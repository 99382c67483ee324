pub mod Parts
pub mod Lost
pub mod Order
pub mod Counted
pub mod Street
pub mod Apart
pub mod Out
pub mod Quiet
