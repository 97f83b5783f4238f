pub mod InputLaws
pub mod BodyLaws
pub mod FunctionLaws
