pub mod Groups
pub mod ChipLaw
