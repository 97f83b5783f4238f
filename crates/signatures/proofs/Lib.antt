pub mod AnswerLaws
pub mod CountLaws
pub mod AroundLaws
pub mod AttributeLaws
pub mod SignatureLaws
pub mod KeptLaws
pub mod HeadLaws
