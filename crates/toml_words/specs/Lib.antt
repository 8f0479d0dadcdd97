pub mod CommandLine
pub mod Request
pub mod Marking
pub mod Told
