mod Passing
mod Tables
pub mod HistoryLemmas
