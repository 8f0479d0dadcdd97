-- trees, the texts that they spell, and what is said of them
pub mod Tree
pub mod Spells
pub mod Profiles
pub mod View
pub mod Lines
pub mod Document
pub mod HandedOut
pub mod Laws
pub mod Pieces
pub mod Parts
pub mod Moved
pub mod Inner
pub mod Bare
pub mod Places
pub mod MarkedTexts
pub mod ViewLaws
pub mod ReadingValues
-- words of the code's own contracts
pub mod Reading
pub mod ReadingLines
pub mod Stands
pub mod Bounded
pub mod Reads
pub mod Loops
