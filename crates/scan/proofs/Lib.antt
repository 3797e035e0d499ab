pub mod Heads
pub mod Scans
