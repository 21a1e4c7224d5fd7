pub mod Owner
pub mod Permits
pub mod Several
