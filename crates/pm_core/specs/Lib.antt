pub mod Begun
pub mod Outbox
pub mod Step
pub mod Usage
