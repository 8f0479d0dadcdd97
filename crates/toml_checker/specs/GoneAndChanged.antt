-- What an edit takes away and what it changes: by the edit's address, the unit's, and of a keyval line or a pair the number of
-- steps of the table's in which it stands.
use Rattle.std.specs.Prelude.{◌≡◌, ◌⊎◌, ◌<◌, ℕ, length, Option, Some, None}
use Rattle.toml_names.specs.model.Addresses.{Address, IsAbove}
use Rattle.toml_edits.specs.Edits.{Change, set, rename, remove, place}
use Rattle.toml_units.specs.declared.unit.UnitKind.{UnitKind}
use Rattle.toml_units.specs.declared.unit.UnitKind.TheVariants as kinds
use Rattle.toml_checker.specs.CarriedTo.{IsAtOrAbove, At}

-- the edit removes at the address or above it,
abbrev pub Removes : Change → Address → Type 0
Removes (remove at) a = IsAtOrAbove at a
Removes _ a = ⊥

-- sets at it or above it,
abbrev pub Sets : Change → Address → Type 0
Sets (set at value) a = IsAtOrAbove at a
Sets _ a = ⊥

-- strictly above it,
abbrev pub SetsAbove : Change → Address → Type 0
SetsAbove (set at value) a = IsAbove at a
SetsAbove _ a = ⊥

-- at it,
abbrev pub SetsIt : Change → Address → Type 0
SetsIt (set at value) a = at ≡ a
SetsIt _ a = ⊥

-- renames at it or above it,
abbrev pub Renames : Change → Address → Type 0
Renames (rename at to) a = IsAtOrAbove at a
Renames _ a = ⊥

-- or is of any kind, strictly below it.
abbrev pub IsWithin : Change → Address → Type 0
IsWithin c a = IsAbove a (place c)

-- A keyval line or a pair goes by a removal at it or above it, and by a `set` strictly above it.
abbrev pub PairIsGone : Change → Address → Type 0
PairIsGone c a = Removes c a ⊎ SetsAbove c a

-- A `set` at it changes it, any edit strictly below it, and a renaming of what its own key has: at it or above it, below the table
-- in which it stands.
abbrev pub PairIsChanged : Change → Address → ℕ → Type 0
PairIsChanged c a steps = SetsIt c a ⊎ IsWithin c a ⊎ (Renames c a × (steps < length (place c)))

-- A header line, an element and a comment in an array or an inline table go by a removal and a `set` at the address or above it.
abbrev pub PartIsGone : Change → Address → Type 0
PartIsGone c a = Removes c a ⊎ Sets c a

-- A line without an address is blank, and one without a base a header's. Blank ones stay, a renaming at it or above it changes a
-- header line.
abbrev pub LineIsGone : Change → Option Address → Option ℕ → Type 0
LineIsGone c None base = ⊥
LineIsGone c (Some a) None = PartIsGone c a
LineIsGone c (Some a) (Some steps) = PairIsGone c a

abbrev pub LineIsChanged : Change → Option Address → Option ℕ → Type 0
LineIsChanged c None base = ⊥
LineIsChanged c (Some a) None = Renames c a
LineIsChanged c (Some a) (Some steps) = PairIsChanged c a steps

-- A unit as an edit finds it: what it is, where it stands and in which table, and the same of its line.
pub record Standing : Type 0 where
  pub kind : UnitKind
  pub address : Option Address
  pub base : Option ℕ
  pub line : Option Address
  pub line_base : Option ℕ

-- A comment goes with its line, and one in an array or an inline table also as its parts do; no edit changes it. Any edit strictly below an
-- element changes it.
abbrev pub IsGone : UnitKind → Change → Standing → Type 0
IsGone kinds.Line c s = LineIsGone c s.address s.base
IsGone kinds.TailComment c s = LineIsGone c s.line s.line_base
IsGone kinds.InnerComment c s = LineIsGone c s.line s.line_base ⊎ At s.address (PartIsGone c)
IsGone kinds.Element c s = At s.address (PartIsGone c)
IsGone kinds.Pair c s = LineIsGone c s.address s.base

abbrev pub IsChanged : UnitKind → Change → Standing → Type 0
IsChanged kinds.Line c s = LineIsChanged c s.address s.base
IsChanged kinds.TailComment c s = ⊥
IsChanged kinds.InnerComment c s = ⊥
IsChanged kinds.Element c s = At s.address (IsWithin c)
IsChanged kinds.Pair c s = LineIsChanged c s.address s.base
