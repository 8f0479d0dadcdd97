pub mod Asking
pub mod AllRead
pub mod Opened
pub mod Settled
pub mod Validated
pub mod Reasons
pub mod Ended
pub mod Replied
