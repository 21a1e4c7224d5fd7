pub mod ChangeLemmas
pub mod HolderLemmas
pub mod PermittedLemmas
pub mod RunsLaw
pub mod StandLemmas
