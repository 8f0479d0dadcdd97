pub mod Joined
pub mod Names
pub mod Makings
pub mod Cuts
pub mod Workings
pub mod Spared
pub mod Wholes
