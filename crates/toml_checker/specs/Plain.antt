-- The plain function of what is protected: which edits name a unit, read off where their places lie.
use Rattle.std.specs.Prelude.{◌≡◌, ◌↔◌, ◌&&◌, ◌||◌, not, ℕ, Bool, true, false, List, [], ◌∷◌, length, map, Option, Some, None, slice_get, if◌then◌else◌}
use Rattle.std.specs.Bool.{nat_lt}
use Rattle.toml_names.specs.model.Addresses.{Address}
use Rattle.toml_edits.specs.Carry.{carry}
use Rattle.toml_edits.specs.Edits.{Change, set, rename, remove, place}
use Rattle.toml_units.specs.declared.unit.Unit.{Unit as Made}
use Rattle.toml_units.specs.declared.unit.UnitKind.{UnitKind}
use Rattle.toml_units.specs.declared.unit.UnitKind.TheVariants as kinds
use Rattle.toml_units.specs.Places.{is_line}
use Rattle.toml_units.specs.Units.{TextUnit}
use Rattle.toml_units.specs.View.{all_units, spanned}
use Rattle.toml_edits.specs.declared.side.Side.{Side}
use Rattle.toml_checker.specs.declared.tables.Part.{Part}
use Rattle.toml_checker.specs.declared.tables.Part.TheVariants as parts
use Rattle.toml_checker.specs.Protected.{IsProtected}
use Rattle.toml_edits.specs.Sides.{is_above, is_at, is_at_or_above, is_below, side}

abbrev pub removes : Change → Side → Bool
removes (remove at) s = is_at_or_above s
removes _ s = false

abbrev pub sets : Change → Side → Bool
sets (set at value) s = is_at_or_above s
sets _ s = false

abbrev pub sets_above : Change → Side → Bool
sets_above (set at value) s = is_above s
sets_above _ s = false

abbrev pub sets_it : Change → Side → Bool
sets_it (set at value) s = is_at s
sets_it _ s = false

abbrev pub renames : Change → Side → Bool
renames (rename at to) s = is_at_or_above s
renames _ s = false

abbrev pub renames_in : Change → ℕ → Side → Bool
renames_in (rename at to) steps s = is_at_or_above s && nat_lt steps (length at)
renames_in _ steps s = false

abbrev pub part_is_gone : Change → Side → Bool
part_is_gone c s = removes c s || sets c s

abbrev pub line_is_gone : Change → Option ℕ → Side → Bool
line_is_gone c None s = part_is_gone c s
line_is_gone c (Some steps) s = removes c s || sets_above c s

abbrev pub line_is_changed : Change → Option ℕ → Side → Bool
line_is_changed c None s = renames c s
line_is_changed c (Some steps) s = sets_it c s || (is_below s || renames_in c steps s)

-- the edit, whose place lies so, names what is asked for
abbrev pub is_named : Part → Change → Option ℕ → Side → Bool
is_named parts.Line c base s = line_is_gone c base s || line_is_changed c base s
is_named parts.Home c base s = line_is_gone c base s
is_named parts.Element c base s = part_is_gone c s || is_below s
is_named parts.Comment c base s = part_is_gone c s

-- no edit names it, each where those before it have carried it
abbrev pub stands : Part → List Change → Option Address → Option ℕ → Bool
stands part [] o base = true
stands part (c ∷ cs) None base = true
stands part (c ∷ cs) (Some a) base = not (is_named part c base (side (place c) a)) && stands part cs (carry c a) base

-- what of a unit decides whether it is protected
pub record Site : Type 0 where
  pub kind : UnitKind
  pub address : Option Address
  pub base : Option ℕ

abbrev pub site : TextUnit → Site
site u = record { kind = u.kind; address = u.address; base = u.base }

abbrev pub made_site : Made → Site
made_site u = record { kind = u.kind; address = u.address; base = u.base }

-- the line of a comment stays
abbrev pub home_stands : List Change → Option Site → Bool
home_stands cs None = true
home_stands cs (Some l) = stands parts.Home cs l.address l.base

-- whether a unit is protected, where it is known whether its line stays
abbrev pub is_kept_by : UnitKind → List Change → Bool → Site → Bool
is_kept_by kinds.Line cs home s = stands parts.Line cs s.address s.base
is_kept_by kinds.Pair cs home s = stands parts.Line cs s.address s.base
is_kept_by kinds.Element cs home s = stands parts.Element cs s.address s.base
is_kept_by kinds.TailComment cs home s = home
is_kept_by kinds.InnerComment cs home s = home && stands parts.Comment cs s.address s.base

-- the same of a unit of the line
abbrev pub is_kept : UnitKind → List Change → Option Site → Site → Bool
is_kept kind cs line s = is_kept_by kind cs (home_stands cs line) s

-- whether the line stays in which the unit is, or which it is
abbrev pub home_with : List Change → Bool → Site → Bool
home_with cs home s = if is_line s.kind then stands parts.Home cs s.address s.base else home

-- the unit where it is a line, else the line so far
abbrev pub next_line : Option Site → Site → Option Site
next_line line s = if is_line s.kind then Some s else line

-- for each unit, behind such a line, whether it is protected
abbrev pub flags_from : List Change → Option Site → List Site → List Bool
flags_from cs line [] = []
flags_from cs line (s ∷ ss) = is_kept s.kind cs (next_line line s) s ∷ flags_from cs (next_line line s) ss

abbrev pub flags : List Change → List Site → List Bool
flags cs = flags_from cs None

-- the flags tell of each unit whether it is protected
abbrev pub TellProtected : List Change → List TextUnit → List Bool → Type 0
TellProtected cs us fs = (length fs ≡ length us) × ((i : ℕ) → (slice_get fs i ≡ Some true) ↔ IsProtected cs us i)

-- they tell so of the units that are the code's
abbrev pub TellProtectedOf : List Made → List Change → List Bool → Type 0
TellProtectedOf made cs fs = (us : List TextUnit) → all_units made ≡ map spanned us → TellProtected cs us fs

-- Law: those of the plain function do.
abbrev pub FlagsTell : Type 0
FlagsTell = (cs : List Change) (us : List TextUnit) → TellProtected cs us (flags cs (map site us))
