pub mod Bits
pub mod Heard
pub mod Lines
pub mod Measured
