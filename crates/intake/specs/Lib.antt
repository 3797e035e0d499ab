pub mod Texts
pub mod Outlines
pub mod Answers
