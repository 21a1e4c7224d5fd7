pub mod Answered
pub mod RunsCaused
pub mod Statuses
