pub mod Gaps
pub mod Lending
