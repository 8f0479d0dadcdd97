-- How the steps of an address lead into a value of the working tree: by an element's index, or by all names of a pair's key.
use Rattle.std.specs.Prelude.{◌≡◌, ℕ, zero, suc, Bool, false, if◌then◌else◌, List, [], ◌∷◌, map, length, set, Option, Some, None, option_map, slice_get}
use Rattle.toml_names.specs.declared.model.address.Step.{Step}
use Rattle.toml_names.specs.declared.model.address.Step.TheVariants.{Name, Index}
use Rattle.toml_names.specs.mentions.Keys as names
use Rattle.toml_names.specs.mentions.Keys.{spelled_name}
use Rattle.toml_names.specs.model.Addresses.{Address, same_step}
use Rattle.toml_layout.specs.declared.tree.Dotted.{Dotted}
use Rattle.toml_layout.specs.declared.tree.Entry.{Entry}
use Rattle.toml_layout.specs.declared.tree.Key.{Key}
use Rattle.toml_layout.specs.declared.tree.Value.TheViews.{out-Entry}
use Rattle.toml_layout.specs.OpenOutlines.{leaf_text, dotted, entry, value, Enclosed}
use Rattle.toml_layout.specs.Outlines as outline
use Rattle.toml_layout.specs.Outlines.{DottedOutline, ValueOutline, EntriesOutline}
use Rattle.toml_layout.specs.SetOutlines.{outlined_names}
use Rattle.toml_layout.specs.Beginnings.{begins}

-- the names of a key, and of its parts behind the first
abbrev pub open_rest : List Dotted → names.Key
open_rest ds = map (λ (d : DottedOutline). spelled_name d.part) (map dotted ds)

abbrev pub open_names : Key → names.Key
open_names k = spelled_name (leaf_text k.first) ∷ open_rest k.rest.items

-- whether the step, if there is one, is this name
abbrev pub is_named : List ℕ → Option Step → Bool
is_named name None = false
is_named name (Some s) = same_step (Name name) s

-- how many names of a key, from the first on, are the first steps
abbrev pub in_common : names.Key → Address → ℕ
in_common [] steps = zero
in_common (n ∷ k) [] = zero
in_common (n ∷ k) (s ∷ steps) = if same_step (Name n) s then suc (in_common k steps) else zero

-- whether all names of a key are the first steps
abbrev pub leads : names.Key → Address → Bool
leads k steps = begins (map Name k) steps

-- the index that is the first step, if it is one
abbrev pub first_index : Address → Option ℕ
first_index [] = None
first_index (Name n ∷ steps) = None
first_index (Index i ∷ steps) = Some i

-- the key of the pair with the index, and the value of the entry with it
abbrev pub key_in : EntriesOutline → ℕ → Option names.Key
key_in (outline.End gap) i = None
key_in (outline.Entry before a v after es) zero = option_map outlined_names a
key_in (outline.Entry before a v after es) (suc i) = key_in es i

abbrev pub value_in : EntriesOutline → ℕ → Option ValueOutline
value_in (outline.End gap) i = None
value_in (outline.Entry before a v after es) zero = Some v
value_in (outline.Entry before a v after es) (suc i) = value_in es i

-- the names of the key that an entry of the working tree has, if it is a pair
abbrev pub pair_key : Entry → Option names.Key
pair_key e = option_map (λ a. open_names a.value.key) (out-Entry e).assign

-- the entries, where the one with the index has another value
abbrev pub with_value : EntriesOutline → ℕ → ValueOutline → EntriesOutline
with_value (outline.End gap) i w = outline.End gap
with_value (outline.Entry before a v after es) zero w = outline.Entry before a w after es
with_value (outline.Entry before a v after es) (suc i) w = outline.Entry before a v after (with_value es i w)

-- how many names the key has, if all of them are the first steps
abbrev pub led_by : Option names.Key → Address → Option ℕ
led_by None steps = None
led_by (Some k) steps = if leads k steps then Some (length k) else None

-- an index of a pair whose key leads on so, and how many names it has; or none where no pair does
abbrev pub LeadsOn : EntriesOutline → Address → Option (ℕ × ℕ) → Type 0
LeadsOn es steps None = (i : ℕ) → led_by (key_in es i) steps ≡ None
LeadsOn es steps (Some (i, used)) = led_by (key_in es i) steps ≡ Some used

-- The value of the entry with the index has become another one that is so, and nothing else; where there is no such entry, nothing has.
pub record ChangesEntry (P : ValueOutline → ValueOutline → Type 0) (Q : Type 0) (i : ℕ) (old now : Enclosed) : Type 0 where
  pub found : (v : ValueOutline) → value_in old.entries i ≡ Some v
      → (w : ValueOutline) × P v w × (now ≡ record { opening = old.opening; entries = with_value old.entries i w })
  pub missing : value_in old.entries i ≡ None → (now ≡ old) × Q

-- the value of the entry at the place in a list has become another one that is so, and nothing else
abbrev pub ChangesAt : (ValueOutline → ValueOutline → Type 0) → ℕ → List Entry → List Entry → Type 0
ChangesAt P place old now = (e : Entry) → slice_get old place ≡ Some e
    → (n : Entry) × (w : ValueOutline) × (now ≡ set old place n)
    × (entry n ≡ record { before = (entry e).before; assign = (entry e).assign; value = w; after = (entry e).after })
    × P (value (out-Entry e).value) w
