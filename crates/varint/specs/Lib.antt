pub mod Outcome
pub mod Lists
pub mod Bytes
pub mod Varint
pub mod Answers
pub mod Encoding
pub mod Notation
pub mod Samples
