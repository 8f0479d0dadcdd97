pub mod Judged
pub mod Unique
pub mod Gotten
pub mod Listed
pub mod Verified
pub mod Certified
pub mod Edited
pub mod Applied
pub mod Asked
pub mod Said
pub mod FirstEdits
pub mod NoEdits
pub mod Wishing
mod PlainPrinted
