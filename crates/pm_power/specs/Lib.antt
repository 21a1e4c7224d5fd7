pub mod Forest
pub mod Needs
pub mod Uses
