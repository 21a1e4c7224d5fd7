pub mod GrantsLaw
pub mod SeveralLaw
