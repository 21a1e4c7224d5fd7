pub mod Written
pub mod Gathering
pub mod Opened
