-- `set` on outlines.
use Rattle.std.specs.Prelude.{◌≡◌, ℕ, ◌+◌, Bool, false, ◌||◌, ◌∷◌, map, Some, None, if◌then◌else◌}
use Rattle.toml_names.specs.model.Addresses.{Address, same_address, element, below}
use Rattle.toml_names.specs.mentions.Keys.{Key, spelled_name}
use Rattle.toml_layout.specs.Beginnings.{begins}
use Rattle.toml_layout.specs.Outlines.{AssignOutline, ValueOutline, Token, Listed, Braced, EntriesOutline, End, Entry}

-- the names of a key's parts
abbrev pub outlined_names : AssignOutline → Key
outlined_names a = spelled_name a.first ∷ map (λ d. spelled_name d.part) a.rest

-- a value that stands at `at`, or the new one where that is `p`
abbrev pub set_outline_at : Address → ValueOutline → Address → ValueOutline → ValueOutline
set_outline_at p new at v = if same_address at p then new else v

-- what stands in a value
abbrev mutual
  pub set_outline_within : Address → ValueOutline → Address → ValueOutline → ValueOutline
  set_outline_within p new at (Token text) = Token text
  set_outline_within p new at (Listed opening es) = Listed opening (set_listed p new at 0 es)
  set_outline_within p new at (Braced opening es) = Braced opening (set_braced p new at es)

  -- elements, from the index on
  pub set_listed : Address → ValueOutline → Address → ℕ → EntriesOutline → EntriesOutline
  set_listed p new at i (End gap) = End gap
  set_listed p new at i (Entry before a v after es) =
      Entry before a (set_outline_at p new (element at i) (set_outline_within p new (element at i) v)) after (set_listed p new at (i + 1) es)

  -- pairs
  pub set_braced : Address → ValueOutline → Address → EntriesOutline → EntriesOutline
  set_braced p new at (End gap) = End gap
  set_braced p new at (Entry before None v after es) = Entry before None v after (set_braced p new at es)
  set_braced p new at (Entry before (Some a) v after es) =
      Entry before (Some a) (set_outline_at p new (below at (outlined_names a)) (set_outline_within p new (below at (outlined_names a)) v)) after
      (set_braced p new at es)

abbrev pub set_outline : Address → ValueOutline → Address → ValueOutline → ValueOutline
set_outline p new at v = set_outline_at p new at (set_outline_within p new at v)

-- whether a value stands at `p`: the one at `at`, or one in it
abbrev mutual
  pub has_within : Address → Address → ValueOutline → Bool
  has_within p at (Token text) = false
  has_within p at (Listed opening es) = has_listed p at 0 es
  has_within p at (Braced opening es) = has_braced p at es

  pub has_listed : Address → Address → ℕ → EntriesOutline → Bool
  has_listed p at i (End gap) = false
  has_listed p at i (Entry before a v after es) = (same_address (element at i) p || has_within p (element at i) v) || has_listed p at (i + 1) es

  pub has_braced : Address → Address → EntriesOutline → Bool
  has_braced p at (End gap) = false
  has_braced p at (Entry before None v after es) = has_braced p at es
  has_braced p at (Entry before (Some a) v after es) =
      (same_address (below at (outlined_names a)) p || has_within p (below at (outlined_names a)) v) || has_braced p at es

abbrev pub has_outline : Address → Address → ValueOutline → Bool
has_outline p at v = same_address at p || has_within p at v

-- Law: a value at no beginning of the address stays as it is, and no value stands at the address there.
abbrev pub SetStaysAside : Type 0
SetStaysAside = (p : Address) (new : ValueOutline) (at : Address) (v : ValueOutline) → begins at p ≡ false
    → (set_outline p new at v ≡ v) × (has_outline p at v ≡ false)
