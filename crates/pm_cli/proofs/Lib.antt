pub mod EndedLemmas
pub mod LogLemmas
pub mod Refusals
pub mod TakenLemmas
