pub mod BoundedList
pub mod Faults
pub mod Masters
pub mod Names
pub mod Places
