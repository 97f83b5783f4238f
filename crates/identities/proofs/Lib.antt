pub mod FunctionLaws
pub mod RecordLaws
pub mod LoopLaws
