pub mod Checks
pub mod Engine
pub mod Holding
pub mod Laws
pub mod Owed
pub mod Written
