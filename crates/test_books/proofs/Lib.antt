pub mod SmallTableLaw
