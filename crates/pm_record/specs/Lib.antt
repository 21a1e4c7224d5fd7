pub mod Kinds
pub mod Marks
pub mod Places
pub mod Record
