pub mod LineFields
pub mod Answers
pub mod Lines
pub mod ConsoleLines
