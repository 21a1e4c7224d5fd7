pub mod Held
pub mod Slot
