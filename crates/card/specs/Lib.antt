pub mod Cards
