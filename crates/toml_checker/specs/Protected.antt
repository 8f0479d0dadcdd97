-- Which units no edit of a list takes away or changes.
use Rattle.std.specs.Prelude.{◌≡◌, ℕ, List, [], ◌∷◌, Option, Some, option_and_then, slice_get}
use Rattle.toml_edits.specs.Carry.{carry}
use Rattle.toml_edits.specs.Edits.{Change}
use Rattle.toml_units.specs.Places.{line_of}
use Rattle.toml_units.specs.Units.{TextUnit}
use Rattle.toml_checker.specs.GoneAndChanged.{Standing, IsGone, IsChanged}

-- As the edit leaves it: its address and its line's are carried. The bases are numbers of steps, which stay.
abbrev pub moved : Change → Standing → Standing
moved c s = record { kind = s.kind; address = option_and_then (carry c) s.address; base = s.base; line = option_and_then (carry c) s.line; line_base = s.line_base }

-- no edit makes it gone or changed, each where those before it have carried it
abbrev pub Stays : List Change → Standing → Type 0
Stays [] s = Unit {0}
Stays (c ∷ cs) s = ¬ (IsGone s.kind c s) × ¬ (IsChanged s.kind c s) × Stays cs (moved c s)

abbrev pub standing : TextUnit → Option TextUnit → Standing
standing u line = record { kind = u.kind; address = u.address; base = u.base; line = option_and_then (λ (l : TextUnit). l.address) line; line_base = option_and_then (λ (l : TextUnit). l.base) line }

-- the unit at the place is protected under the edits
abbrev pub IsProtected : List Change → List TextUnit → ℕ → Type 0
IsProtected cs us i = (u : TextUnit) × (slice_get us i ≡ Some u) × Stays cs (standing u (line_of us i))
