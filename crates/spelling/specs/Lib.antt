pub mod Identifier
pub mod ByteClass
pub mod Utf8
pub mod Spelling
