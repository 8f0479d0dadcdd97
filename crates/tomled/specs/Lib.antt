pub mod Asking
pub mod Reads
pub mod Finishing
pub mod Opening
pub mod Validating
pub mod Replies
pub mod Ending
