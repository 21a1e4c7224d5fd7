pub mod Laboratory
pub mod Script
pub mod Summary
