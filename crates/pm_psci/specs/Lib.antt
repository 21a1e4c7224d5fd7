pub mod Answers
pub mod Calls
pub mod Lowering
pub mod Refusal
pub mod Targets
