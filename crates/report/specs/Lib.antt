pub mod Line
pub mod Samples
