pub mod Steps
pub mod Parents
pub mod Kept
pub mod Walking
pub mod Wishes
pub mod Laws
