pub mod Appended
pub mod Delivered
