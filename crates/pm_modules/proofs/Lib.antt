pub mod ModulesLemmas
