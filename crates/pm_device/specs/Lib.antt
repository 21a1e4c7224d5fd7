pub mod Act
pub mod Cells
pub mod Chains
pub mod Device
pub mod Fresh
pub mod Listed
pub mod Logged
pub mod Model
