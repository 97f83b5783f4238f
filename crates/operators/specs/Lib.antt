pub mod Operators
pub mod Samples
