pub mod Slots
pub mod Rounds
pub mod Queues
