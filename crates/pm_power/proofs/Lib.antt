pub mod Following
pub mod NeedsSet
pub mod Setting
pub mod Settled
pub mod UpLaw
