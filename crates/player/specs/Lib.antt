pub mod Modes
pub mod Players
pub mod States
pub mod Replies
