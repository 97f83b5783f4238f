pub mod RowLaws
pub mod SlotLaws
pub mod WalkLaws
pub mod Bound
pub mod Refusals
pub mod Opened
