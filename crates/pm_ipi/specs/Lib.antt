pub mod Callbacks
pub mod Calls
pub mod Mail
pub mod Responses
pub mod Status
