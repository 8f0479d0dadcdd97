pub mod Places
pub mod Reading
pub mod Reads
pub mod Leading
pub mod Parts
pub mod Spelled
pub mod Laws
