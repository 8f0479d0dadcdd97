-- What of two texts stands in no unit.
use Rattle.std.specs.Prelude.{◌≡◌, ℕ, List, []}
use Rattle.toml_tree.specs.Spells.{mark_of}
use Rattle.toml_edits.specs.Edits.{Change}

-- the leading mark is in both texts or in neither, and without edits they are equal
abbrev pub KeepsFrame : List Change → List ℕ → List ℕ → Type 0
KeepsFrame cs before after = (mark_of before ≡ mark_of after) × (cs ≡ [] → before ≡ after)
