pub mod Transitions
pub mod Differences
pub mod Compared
pub mod Listed
pub mod Marks
pub mod Moves
pub mod Sides
pub mod Within
