pub mod Checks
pub mod Heads
pub mod Outside
pub mod Work
