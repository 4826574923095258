pub mod Cards
pub mod Coded
pub mod Fields
pub mod Shown
pub mod Summed
