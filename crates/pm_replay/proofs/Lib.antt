pub mod CoresLemmas
pub mod AloneLemmas
pub mod DriveLemmas
pub mod LeavesLemmas
pub mod LinesLemmas
pub mod ReplayLemmas
pub mod RestLemmas
pub mod GivenLemmas
