pub mod Utf8Rows
pub mod Utf8Laws
pub mod Utf8Reading
pub mod IdentifierLaws
pub mod SpellingLaws
