pub mod Exports
pub mod Samples
