pub mod Levels
pub mod Lists
pub mod Steps
pub mod Wholes
