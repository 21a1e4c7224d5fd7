pub mod BlockLaw
pub mod BlockLemmas
pub mod FormedLaw
