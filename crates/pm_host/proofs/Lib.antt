pub mod WrittenLemmas
pub mod GatheringLemmas
