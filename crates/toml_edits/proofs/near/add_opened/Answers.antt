use Rattle.std.proofs.Common.{sym}
use Rattle.toml_edits.proofs.near.add_opened.Goals as goal

pub returns-in-Insert : goal.returns-in-Insert
returns-in-Insert c = rw c.in-Insert.is c.add_shifted.ensures

pub returns-in-Rename : goal.returns-in-Rename
returns-in-Rename c = rw (c.in-Rename.is, sym c.as_str.ensures.value) c.add_renamed.ensures

pub returns-in-Remove : goal.returns-in-Remove
returns-in-Remove c = rw c.in-Remove.is c.add_shifted-in-Remove.ensures

pub returns-in-Set : goal.returns-in-Set
returns-in-Set c = rw c.in-Set.is c.add_place.ensures

pub returns-in-Section : goal.returns-in-Section
returns-in-Section c = rw c.in-Section.is c.add_place-in-Section.ensures

pub returns-in-Element : goal.returns-in-Element
returns-in-Element c = rw c.in-Element.is c.add_place-in-Element.ensures
