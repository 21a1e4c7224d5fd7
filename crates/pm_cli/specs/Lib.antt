pub mod Brought
pub mod Ended
pub mod Logged
pub mod Replayed
