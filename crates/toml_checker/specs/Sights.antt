-- What edits do to a unit, by what the tree of their list shows of it.
use Rattle.std.specs.Prelude.{◌≡◌, ◌+◌, ◌<◌, ◌^◌, ◌||◌, ℕ, Bool, true, false, not, List, [], Option, Some, None, length}
use Rattle.std.specs.Bool.{nat_lt}
use Rattle.toml_names.specs.model.Addresses.{Address}
use Rattle.toml_names.specs.model.Indices.{IsLow}
use Rattle.toml_edits.specs.declared.walking.Sight.{Sight}
use Rattle.toml_edits.specs.declared.walking.Trace.{Trace}
use Rattle.toml_edits.specs.Edits.{Change}
use Rattle.toml_edits.specs.Fitting.{ArePlaced}
use Rattle.toml_edits.specs.Lists.{carried}
use Rattle.toml_edits.specs.Notes.{seen}
use Rattle.toml_edits.specs.Told as told
use Rattle.toml_edits.specs.Trees.{Seen}
use Rattle.toml_checker.specs.declared.edit_list.EditList.{EditList}
use Rattle.toml_checker.specs.declared.tables.Part.{Part}
use Rattle.toml_checker.specs.declared.tables.Part.TheVariants as parts
use Rattle.toml_checker.specs.EditLists.{changes}
use Rattle.toml_checker.specs.Plain.{stands}

abbrev pub more_than : ℕ → Option ℕ → Bool
more_than n None = false
more_than n (Some m) = nat_lt n m

abbrev pub line_is_left : Option ℕ → Seen → Bool
line_is_left None s = not (s.set || more_than 0 s.renamed)
line_is_left (Some steps) s = not (s.set || (s.below || more_than steps s.renamed))

abbrev pub home_is_left : Option ℕ → Seen → Bool
home_is_left None s = not s.set
home_is_left (Some steps) s = true

-- of what stands somewhere in the end: no edit names what is asked for
abbrev pub stands_by : Part → Option ℕ → Seen → Bool
stands_by parts.Line base s = line_is_left base s
stands_by parts.Home base s = home_is_left base s
stands_by parts.Element base s = not (s.set || s.below)
stands_by parts.Comment base s = not s.set

-- what stands nowhere in the end is named
abbrev pub tells : Part → Option ℕ → Option Seen → Bool
tells part base None = false
tells part base (Some s) = stands_by part base s

-- Law: so what is seen of a list tells whether an edit of it names what is asked for.
abbrev pub SeenIsStands : Type 0
SeenIsStands =
    (part : Part) (base : Option ℕ) (cs : List Change) → ArePlaced cs → (n : ℕ) (a : Address) → IsLow n a → n + length cs < 2 ^ 64 → tells part base (seen cs a) ≡ stands part cs (Some a) base

-- the marks that the code has
abbrev pub seen_by : Trace → Seen
seen_by t = record { to = []; set = t.set; below = t.below; renamed = t.renamed }

-- the thing at an address, if there is one, has this sight under the list
abbrev pub HasSight : EditList → Option Address → Sight → Type 0
HasSight list None sight = Unit {0}
HasSight list (Some a) sight = ∥ told.HasSight (changes list) a sight ∥₁

-- where it says so, what has the sight stays where it is
abbrev pub StaysBy : Sight → Bool → Type 0
StaysBy sight b = b ≡ true → (list : EditList) (a : Address) → HasSight list (Some a) sight → carried (changes list) a ≡ Some a
