pub mod Carried
pub mod Failing
pub mod Left
pub mod Order
pub mod Part
pub mod Plan
pub mod Room
pub mod Visits
