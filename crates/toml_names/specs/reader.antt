pub mod LineNames
pub mod Names
pub mod Parts
pub mod Reading
pub mod Texts
pub mod Values
