pub mod NodeCounts
pub mod OutputLaws
pub mod NodeLaws
pub mod ClosingLaws
