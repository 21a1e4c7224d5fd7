pub mod Refused
pub mod TurnedLaw
