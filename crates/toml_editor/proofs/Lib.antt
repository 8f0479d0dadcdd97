pub mod Shapes
pub mod MadeEdits
pub mod MakesExact
pub mod PlainMade
pub mod OneChanged
pub mod EachEdit
pub mod LastAnswered
pub mod PassedRefused
pub mod Judgements
pub mod PlainAnswers
pub mod PlainRefused
mod PlainJudged
pub mod NearFaults
mod SpelledOne
mod SourceKept
pub mod Mannered
mod RenameWritten
mod EditWritten
mod WrittenOut
pub mod SetOutlined
pub mod RenameOutlined
pub mod written
pub mod Proved
mod ReadDocuments
mod Each
mod Answered
