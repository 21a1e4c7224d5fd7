pub mod LinesLaw
