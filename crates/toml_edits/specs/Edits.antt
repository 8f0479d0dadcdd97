-- What an edit is, its texts as their bytes.
use Rattle.std.specs.Prelude.{ℕ, List, string_bytes}
use Rattle.toml_names.specs.model.Addresses.{Address}
use Rattle.toml_edits.specs.declared.edit.Edit.{Edit}
use Rattle.toml_edits.specs.declared.edit.Edit.TheVariants as edits

pub data Change : Type 0 where
  set : Address → List ℕ → Change
  insert : Address → List ℕ → Change
  rename : Address → List ℕ → Change
  remove : Address → Change
  new_section : Address → Change
  new_element : Address → Change

abbrev pub change : Edit → Change
change (edits.Set at value) = set at (string_bytes value)
change (edits.Insert at value) = insert at (string_bytes value)
change (edits.Rename at to) = rename at (string_bytes to)
change (edits.Remove at) = remove at
change (edits.Section at) = new_section at
change (edits.Element at) = new_element at

-- the address that an edit names
abbrev pub place : Change → Address
place (set at value) = at
place (insert at value) = at
place (rename at to) = at
place (remove at) = at
place (new_section at) = at
place (new_element at) = at
