pub mod CellsLaw
pub mod ChainLaw
pub mod DeviceLaw
pub mod Rising
