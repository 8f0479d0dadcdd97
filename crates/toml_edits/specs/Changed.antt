-- What a change of one datum makes of what stands in it, and of what stands in the whole. The facts of the new data are told by where
-- in the old they come from.
use Rattle.std.specs.Prelude.{◌≡◌, ◌<◌, ◌+◌, ◌-◌, ◌==◌, ℕ, List, [], ◌∷◌, Some, None, IsSome, if◌then◌else◌}
use Rattle.std.specs.Bool.{nat_lt}
use Rattle.std.specs.BTreeMap.{get_by_text}
use Rattle.std.specs.Str.{bytes_eq}
use Rattle.toml_names.specs.declared.model.address.Step.TheVariants.{Name, Index}
use Rattle.toml_names.specs.model.Addresses.{Address, same_step}
use Rattle.toml_names.specs.model.Data.{Kinds, kind_at}
use Rattle.toml_names.specs.model.Levels.{Members}
use Rattle.toml_names.specs.mentions.Mentions.{a_table, an_array}
use Rattle.toml_edits.specs.declared.change.DatumChange.{DatumChange}
use Rattle.toml_edits.specs.declared.change.DatumChange.TheVariants.{Put, AddMember, AddElement, Rename, DropMember, DropElement}
use Rattle.toml_edits.specs.After.{nothing}

-- what stands below the address is changed
abbrev pub below : Address → (Kinds → Kinds) → Kinds → Kinds
below [] f kinds at = f kinds at
below (s ∷ p) f kinds [] = kinds []
below (s ∷ p) f kinds (t ∷ at) = if same_step s t then below p f (λ r. kinds (s ∷ r)) at else kinds (t ∷ at)

-- the part stands at the index, and what was there and behind it one further
abbrev pub shifted_in : ℕ → Kinds → Kinds → Kinds
shifted_in i part kinds [] = kinds []
shifted_in i part kinds (Name n ∷ at) = kinds (Name n ∷ at)
shifted_in i part kinds (Index j ∷ at) = if nat_lt j i then kinds (Index j ∷ at) else if j == i then part at else kinds (Index (j - 1) ∷ at)

-- what was at the index is gone, and what was behind it stands one nearer
abbrev pub shifted_out : ℕ → Kinds → Kinds
shifted_out i kinds [] = kinds []
shifted_out i kinds (Name n ∷ at) = kinds (Name n ∷ at)
shifted_out i kinds (Index j ∷ at) = if nat_lt j i then kinds (Index j ∷ at) else kinds (Index (j + 1) ∷ at)

abbrev pub renamed : List ℕ → List ℕ → Kinds → Kinds
renamed from to kinds [] = kinds []
renamed from to kinds (Index i ∷ at) = kinds (Index i ∷ at)
renamed from to kinds (Name n ∷ at) = if bytes_eq to n then kinds (Name from ∷ at) else if bytes_eq from n then None else kinds (Name n ∷ at)

abbrev pub changed : DatumChange → Kinds → Kinds
changed (Put d) kinds = kind_at d
changed (AddMember n d) kinds = below (Name n.now ∷ []) (λ part. kind_at d) kinds
changed (AddElement i d) kinds = shifted_in i (kind_at d) kinds
changed (Rename from to) kinds = renamed from.now to.now kinds
changed (DropMember n) kinds = below (Name n.now ∷ []) (λ part. nothing) kinds
changed (DropElement i) kinds = shifted_out i kinds

-- the change may be made where these stand
abbrev pub IsApplicable : DatumChange → Kinds → Type 0
IsApplicable (Put d) kinds = IsSome (kinds [])
IsApplicable (AddMember n d) kinds = kinds [] ≡ Some a_table
IsApplicable (AddElement i d) kinds = (kinds [] ≡ Some an_array) × ((j : ℕ) → j < i → IsSome (kinds (Index j ∷ [])))
IsApplicable (Rename from to) kinds = (kinds [] ≡ Some a_table) × IsSome (kinds (Name from.now ∷ [])) × (kinds (Name to.now ∷ []) ≡ None)
IsApplicable (DropMember n) kinds = IsSome (kinds (Name n.now ∷ []))
IsApplicable (DropElement i) kinds = IsSome (kinds (Index i ∷ []))

-- the new members have under the new name what the old ones have under the old one, which is gone, and are the old ones elsewhere
abbrev pub HasMemberRenamed : List ℕ → List ℕ → Members → Members → Type 0
HasMemberRenamed from to old new =
    (n : List ℕ) → get_by_text new n ≡ (if bytes_eq to n then get_by_text old from else if bytes_eq from n then None else get_by_text old n)
