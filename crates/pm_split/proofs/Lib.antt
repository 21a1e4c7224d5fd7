pub mod Lists
pub mod Masks
pub mod PlacesLaw
pub mod ServedLaw
pub mod SplitLaw
pub mod WaitingLaw
