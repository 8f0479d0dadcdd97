pub mod OneMoreLine
pub mod Passed
pub mod RefusedTexts
pub mod RootData
pub mod WholeDocument
pub mod WholeText
pub mod WholeValue
