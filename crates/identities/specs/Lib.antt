pub mod Functions
pub mod Identified
pub mod Samples
