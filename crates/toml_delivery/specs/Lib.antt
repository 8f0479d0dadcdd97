pub mod Counts
pub mod Takes
pub mod Refusals
pub mod Outcomes
pub mod RunFaults
pub mod Delivery
