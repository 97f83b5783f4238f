pub mod AttributeLaws
pub mod NodeLaws
pub mod ContextLaws
