pub mod BorderLaw
pub mod Found
pub mod MembershipLaw
pub mod ParentsLaw
pub mod PathOrder
pub mod ReachedLaw
pub mod SearchLaw
pub mod Walk
