pub mod Window
pub mod Reader
pub mod Meant
pub mod Way
pub mod Front
pub mod Follow
pub mod Shown
