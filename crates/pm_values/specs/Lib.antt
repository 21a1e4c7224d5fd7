pub mod Along
pub mod Behind
pub mod Caches
pub mod Found
pub mod Kinds
pub mod Notifications
pub mod Starts
pub mod Turns
