pub mod Calls
pub mod Followed
pub mod Laws
pub mod Served
pub mod Table
pub mod Told
pub mod Tree
