pub mod Modules
pub mod Ranges
pub mod Responders
