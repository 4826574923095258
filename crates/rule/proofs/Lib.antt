pub mod Answer
pub mod Bytes
pub mod Sentences
pub mod Shapes
pub mod Steps
pub mod Walk
pub mod Whole
