pub mod Mentioned
pub mod Sought
pub mod Redefined
pub mod Spots
