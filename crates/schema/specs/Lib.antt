pub mod Rows
pub mod Numbers
pub mod Page
pub mod FirstWalk
pub mod Opened
pub mod Answers
pub mod Samples
