pub mod Segments
pub mod Pieces
pub mod Faults
pub mod Done
