pub mod Column
pub mod Reach
pub mod Same
pub mod Worlds
