pub mod Chip
pub mod Classes
