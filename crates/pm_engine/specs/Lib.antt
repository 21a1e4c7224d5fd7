pub mod Progress
pub mod Writes
