-- The data after an edit: a set of facts moved at once. The tree of the data is not mentioned.
use Rattle.std.specs.Prelude.{◌≡◌, ◌⊎◌, ◌++◌, ◌∷◌, ℕ, [], Option, Some, None, MatchOption, if◌then◌else◌}
use Rattle.toml_tree.specs.declared.profile.Profile.{Profile}
use Rattle.toml_names.specs.declared.model.address.Step.TheVariants.{Index}
use Rattle.toml_names.specs.model.Addresses.{Address, element, same_step}
use Rattle.toml_names.specs.model.Data.{Kinds}
use Rattle.toml_names.specs.mentions.Mentions.{Kind, a_table, an_array}
use Rattle.toml_edits.specs.Carry.{Carrier, carry, carry_below, nowhere}
use Rattle.toml_edits.specs.Edits.{Change, set, insert, rename, remove, new_section, new_element}
use Rattle.toml_edits.specs.ValueTexts.{IsGoodValue}

-- where a fact of the new data comes from: one of the old that is carried there, or one of the value, placed at the address
abbrev pub Comes : Carrier → Address → Kinds → Kinds → Address → Kind → Type 0
Comes c p v old a k = ((b : Address) × (old b ≡ Some k) × (c b ≡ Some a)) ⊎ ((r : Address) × (a ≡ p ++ r) × (v r ≡ Some k))

-- the new data have each old fact where it is carried, each fact of the value at the address followed by its own, and no other
pub record Moves (c : Carrier) (p : Address) (v old new : Kinds) : Type 0 where
  pub carried : (a b : Address) (k : Kind) → old b ≡ Some k → c b ≡ Some a → new a ≡ Some k
  pub placed : (r : Address) (k : Kind) → v r ≡ Some k → new (p ++ r) ≡ Some k
  pub no_other : (a : Address) (k : Kind) → new a ≡ Some k → Comes c p v old a k

abbrev pub nothing : Kinds
nothing a = None

-- the facts of an empty table, and of an array of one
abbrev pub an_empty_table : Kinds
an_empty_table [] = Some a_table
an_empty_table (s ∷ a) = None

abbrev pub one_empty_table : Kinds
one_empty_table [] = Some an_array
one_empty_table (s ∷ a) = if same_step (Index 0) s then an_empty_table a else None

-- the element at the end of its array, and where this one stands nowhere the array with the element, whose index is 0 then
abbrev pub AddsElement : Address → Address → Option Kind → Kinds → Kinds → Type 0
AddsElement q at there old new = MatchOption there (Moves Some q one_empty_table old new) (λ k. Moves Some at an_empty_table old new)

-- what an edit makes of data, its value a text of the profile. A value that is set takes the place of what stood there, and of
-- all below it. A new element of an array that is not there makes the array too.
abbrev pub IsAfter : Profile → Change → Kinds → Kinds → Type 0
IsAfter profile (set at value) old new = (v : Kinds) × IsGoodValue profile value v × Moves (carry_below at nowhere) at v old new
IsAfter profile (insert at value) old new = (v : Kinds) × IsGoodValue profile value v × Moves (carry (insert at value)) at v old new
IsAfter profile (rename at to) old new = Moves (carry (rename at to)) [] nothing old new
IsAfter profile (remove at) old new = Moves (carry (remove at)) [] nothing old new
IsAfter profile (new_section at) old new = Moves Some at an_empty_table old new
IsAfter profile (new_element at) old new = (q : Address) × (i : ℕ) × (at ≡ element q i) × AddsElement q at (old q) old new
