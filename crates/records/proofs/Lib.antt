pub mod Bools
pub mod Forests
pub mod Statements
pub mod Expressions
pub mod Accepted
pub mod Tiles
pub mod Walks
pub mod Blocks
