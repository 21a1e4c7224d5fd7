pub mod Modes
pub mod Pending
pub mod Procs
