pub mod Callbacks
pub mod Ended
pub mod Opening
pub mod Served
pub mod Talk
pub mod Telling
