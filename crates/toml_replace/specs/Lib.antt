pub mod Calls
pub mod Beside
pub mod Replacement
pub mod Steps
