pub mod Beyond
pub mod Controls
pub mod Stands
pub mod Status
pub mod Steps
