pub mod Held
pub mod Lines
pub mod Glyphs
pub mod Opened
pub mod Fronts
pub mod Shown
pub mod OneLine
pub mod ShownLines
