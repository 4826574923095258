pub mod Codes
pub mod Lattice
pub mod MarginCodes
pub mod VerdictLaws
