pub mod Slots
pub mod Plays
