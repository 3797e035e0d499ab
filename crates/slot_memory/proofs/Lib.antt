pub mod Newest
