pub mod Filled
pub mod Loops
pub mod Parts
pub mod Ranged
pub mod Rules
pub mod Segments
pub mod Steps
pub mod Turning
