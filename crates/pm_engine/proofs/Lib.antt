pub mod ClocksLemmas
pub mod LoadLemmas
pub mod NoticesLemmas
pub mod TasksLemmas
pub mod WritesLemmas
pub mod WritingLemmas
