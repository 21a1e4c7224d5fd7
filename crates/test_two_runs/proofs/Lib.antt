pub mod SidesLaw
