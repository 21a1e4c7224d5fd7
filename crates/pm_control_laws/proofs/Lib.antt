pub mod SessionLaw
