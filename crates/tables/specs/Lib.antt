pub mod Sameness
pub mod Stacks
pub mod Distinct
