pub mod LinesLemmas
pub mod WholeRunLemmas
