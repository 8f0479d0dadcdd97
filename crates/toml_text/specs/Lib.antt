pub mod Bytes
pub mod Forms
pub mod Limit
pub mod Longest
pub mod Runs
pub mod Source
pub mod Positions
pub mod Laws
