pub mod Openings
pub mod Shown
pub mod Excerpts
pub mod Documents
pub mod Reasons
pub mod Standing
