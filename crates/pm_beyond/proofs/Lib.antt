pub mod FoundLaw
