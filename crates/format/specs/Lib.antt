pub mod Bytes
pub mod Example
pub mod Laws
pub mod Reading
