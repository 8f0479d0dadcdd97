pub mod Common
pub mod Each
pub mod Proved
pub mod lemmas
