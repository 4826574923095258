pub mod Lasting
pub mod Words
