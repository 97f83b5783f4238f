pub mod RecordLaws
pub mod ScopeLaws
pub mod ClearLaws
pub mod SplitLaws
pub mod RecallLaws
pub mod StepLaws
