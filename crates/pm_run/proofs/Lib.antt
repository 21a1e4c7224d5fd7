pub mod BooksLaw
pub mod ServedLaw
pub mod FormedLemmas
