pub mod CountLemmas
pub mod LaboratoryLemmas
pub mod LinesLemmas
pub mod MeaningLemmas
pub mod NamedLemmas
