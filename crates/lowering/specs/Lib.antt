pub mod Fit
pub mod View
pub mod Names
