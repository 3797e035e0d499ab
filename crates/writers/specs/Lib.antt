pub mod Write
pub mod Sizes
pub mod Leaves
