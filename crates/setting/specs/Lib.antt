pub mod Checks
pub mod Set
