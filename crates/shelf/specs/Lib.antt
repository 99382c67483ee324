pub mod Shelf
pub mod Shelves
pub mod Sessions
