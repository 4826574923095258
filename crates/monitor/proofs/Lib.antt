pub mod Accepted
pub mod Carried
pub mod Columns
pub mod Fronts
pub mod Leaving
