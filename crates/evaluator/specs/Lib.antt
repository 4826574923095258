pub mod Judged
pub mod Markings
pub mod Parts
pub mod Segments
pub mod Tables
