-- What one edit adds to what is seen of a thing, and what a list shows of it, edit by edit.
use Rattle.std.specs.Prelude.{◌≡◌, ℕ, Bool, true, false, ◌&&◌, ◌||◌, List, [], ◌∷◌, length, max, Option, Some, None, option_map, option_and_then, if◌then◌else◌}
use Rattle.toml_names.specs.model.Addresses.{Address}
use Rattle.toml_edits.specs.declared.side.Side.{Side}
use Rattle.toml_edits.specs.Carry.{carry}
use Rattle.toml_edits.specs.Edits.{Change, set, insert, rename, remove, new_section, new_element, place}
use Rattle.toml_edits.specs.Lists.{carried}
use Rattle.toml_edits.specs.Sides.{is_at, is_below, is_at_or_above, side}
use Rattle.toml_edits.specs.Trees.{Seen}

abbrev pub deepest : Option ℕ → Option ℕ → Option ℕ
deepest None o = o
deepest (Some n) None = Some n
deepest (Some n) (Some m) = Some (max n m)

-- which marks an edit makes
pub record Sort : Type 0 where
  pub sets : Bool
  pub renames : Bool

abbrev pub sort : Change → Sort
sort (set at value) = record { sets = true; renames = false }
sort (insert at value) = record { sets = false; renames = false }
sort (rename at to) = record { sets = false; renames = true }
sort (remove at) = record { sets = false; renames = false }
sort (new_section at) = record { sets = false; renames = false }
sort (new_element at) = record { sets = false; renames = false }

-- the edit's place, of so many steps, lies so
abbrev pub with_side : Sort → ℕ → Side → Seen → Seen
with_side k n s o = record {
  to = o.to;
  set = (is_at s && k.sets) || o.set;
  below = is_below s || o.below;
  renamed = if is_at_or_above s && k.renames then deepest (Some n) o.renamed else o.renamed;
}

abbrev pub noted : Sort → Address → Address → Seen → Seen
noted k p a = with_side k (length p) (side p a)

-- of a thing that no edit touches
abbrev pub untouched : Address → Seen
untouched a = record { to = a; set = false; below = false; renamed = None }

-- what the edits do to the thing at an address; nothing where it stands nowhere behind them
abbrev pub seen : List Change → Address → Option Seen
seen [] a = Some (untouched a)
seen (c ∷ cs) a = option_map (noted (sort c) (place c) a) (option_and_then (seen cs) (carry c a))

-- Law: it is where they carry it.
abbrev pub SeenIsCarried : Type 0
SeenIsCarried = (cs : List Change) (a : Address) → option_map (λ (s : Seen). s.to) (seen cs a) ≡ carried cs a
