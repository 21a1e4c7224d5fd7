pub mod Forms
pub mod Meaning
pub mod ObjectLine
pub mod Sentences
pub mod Script
pub mod Short
pub mod Named
