pub mod Scope
pub mod Recall
