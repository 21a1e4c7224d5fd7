pub mod Counting
pub mod Midway
