pub mod ComingLemmas
pub mod StatusLemmas
pub mod StepLemmas
pub mod WayLemmas
