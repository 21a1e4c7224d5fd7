pub mod ExitsLemmas
pub mod LineLemmas
pub mod ReachLemmas
pub mod ReadsLemmas
pub mod StepLemmas
pub mod StepTextLemmas
pub mod ReportLemmas
pub mod ScriptsLemmas
