pub mod mentions
pub mod model
pub mod reader
pub mod tree
