pub mod Done
pub mod Answers
pub mod Counting
