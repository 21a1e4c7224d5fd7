pub mod EndedLemmas
pub mod OtherNotesLaw
pub mod RenewLaw
pub mod TalkLemmas
pub mod TellLemmas
pub mod QuietLaw
pub mod StillLaw
