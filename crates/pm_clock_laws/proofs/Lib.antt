pub mod BesideLemmas
pub mod ColumnLemmas
pub mod LinesLemmas
pub mod RunsLemmas
