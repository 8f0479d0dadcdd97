-- The texts of units.
use Rattle.std.specs.Prelude.{◌≡◌, ◌≤◌, ℕ, List, length, slice_range}
use Rattle.toml_tree.specs.Spells.{EachIs, Spells, SpellsValue}
use Rattle.toml_tree.specs.Tree.{Value, Doc}
use Rattle.toml_names.specs.model.Addresses.{Address}
use Rattle.toml_units.specs.Blocks.{end}
use Rattle.toml_units.specs.Units.{TextUnit, inside, units}

-- its text is what stands in the whole text from its start up to its end
abbrev pub ReadsIn : List ℕ → TextUnit → Type 0
ReadsIn text u = (end u ≤ length text) × (slice_range text u.piece.start (end u) ≡ u.piece.text)

-- Law: so it is with each unit of a document.
abbrev pub UnitsReadTheText : Type 0
UnitsReadTheText = (d : Doc) (text : List ℕ) → Spells d text → EachIs (ReadsIn text) (units d.lines)

-- Law: and with each in a text that is one value.
abbrev pub InsideReadsTheText : Type 0
InsideReadsTheText = (v : Value) (at : Address) (text : List ℕ) → SpellsValue v 0 text → EachIs (ReadsIn text) (inside at v)
