pub mod Adding
pub mod Marks
