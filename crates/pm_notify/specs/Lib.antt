pub mod Laws
pub mod MasterNotes
pub mod NodeNotes
pub mod Notes
pub mod Notify
