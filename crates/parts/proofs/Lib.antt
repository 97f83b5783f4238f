pub mod ListsLaws
pub mod InputLaws
pub mod InitializerLaws
pub mod OpeningLaws
