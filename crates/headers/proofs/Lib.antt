pub mod Silent
pub mod EarlierLaws
pub mod BehindLaws
pub mod ListedLaws
pub mod ImportLaws
pub mod HeaderLaws
