pub mod Calls
pub mod Promises
pub mod Runs
pub mod States
