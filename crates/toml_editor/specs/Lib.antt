pub mod Faults
pub mod Edited
pub mod EditedLines
-- words of the code's own contracts
pub mod Making
pub mod Editing
pub mod SpelledEdits
-- the laws of what a plain edit writes
pub mod HeaderLaws
pub mod Held
pub mod SetLaws
pub mod Blocks
pub mod InsertLaws
pub mod RemoveLaws
pub mod RenameLaws
pub mod RenamedHeaders
pub mod Bares
-- what it does to the units
pub mod UnitBlocks
pub mod RenamedUnits
pub mod ChangedUnits
pub mod Steps
pub mod CarriedUnits
pub mod CarriedLists
pub mod CertifiedLists
-- that the code writes it
pub mod StandingLaws
pub mod PlainTexts
pub mod PlainAnswers
pub mod LastTexts
pub mod EachEdit
pub mod Exact
pub mod Made
