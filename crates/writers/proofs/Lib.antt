pub mod Spelled
pub mod Forms
pub mod Weights
pub mod Items
pub mod Replies
pub mod Puts
