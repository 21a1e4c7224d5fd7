pub mod MastersLaw
pub mod ModeLemmas
pub mod PendingLaw
pub mod Places
