pub mod Sides
pub mod Lent
pub mod Proved
