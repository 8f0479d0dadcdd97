-- outlines
pub mod Parts
pub mod Outlines
pub mod OpenOutlines
pub mod OpenLaws
pub mod TreeOutlines
pub mod Beginnings
pub mod SetOutlines
pub mod RenameOutlines
pub mod Apart
-- what is opened
pub mod Opening
pub mod KnownLines
-- how new text is laid out
pub mod Spacings
pub mod Looks
pub mod Gaps
pub mod PartOutlines
pub mod Margins
pub mod Leaving
pub mod Items
pub mod Rooms
pub mod Takings
-- what an edit changes in a value, and in the key before it
pub mod NewKeys
pub mod Leading
pub mod Holders
pub mod SettingIn
pub mod RenamingIn
pub mod RenamedPairs
pub mod PairPlaces
pub mod PairRemovals
pub mod Holding
pub mod ChangingIn
pub mod Emptying
-- of which there is one
pub mod OneOutline
