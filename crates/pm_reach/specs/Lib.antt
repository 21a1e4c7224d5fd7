pub mod Border
pub mod Brings
pub mod Leads
pub mod Membership
pub mod Paths
pub mod Reached
pub mod Search
