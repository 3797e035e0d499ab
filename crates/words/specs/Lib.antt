pub mod Words
pub mod Numbers
pub mod Faults
pub mod Hex
pub mod Reads
