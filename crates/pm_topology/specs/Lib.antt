pub mod FirstFault
pub mod Masters
pub mod Places
pub mod Rules
pub mod UnitMap
pub mod Units
pub mod WellFormed
