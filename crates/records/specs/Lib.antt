pub mod Numbers
pub mod Meanings
pub mod Tree
pub mod Preorder
pub mod Checks
pub mod Accepts
