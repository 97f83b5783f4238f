pub mod BodyLaws
pub mod CountLaws
pub mod CycleLaws
pub mod PromiseLaws
pub mod AttributeLaws
pub mod NodeLaws
pub mod GraphLaws
