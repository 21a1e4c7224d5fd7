pub mod Boxes
pub mod Split
pub mod Left
pub mod Served
