-- An index in data is below the length of an array, and that below 2^63.
use Rattle.std.proofs.Common.{◌≡◌, ◌⊎◌, inl, inr, ℕ, ◌<◌, ◌^◌, [], ◌∷◌, length, Option, Some, None, IsSome, is_some, true≢false, Vec, Global, sym, ap, subst, ◌∙◌, arith}
use Rattle.toml_names.specs.declared.model.address.Step.{Step}
use Rattle.toml_names.specs.declared.model.address.Step.TheVariants.{Name, Index}
use Rattle.toml_names.specs.declared.model.datum.Datum.{Datum, Scalar, Array, Table}
use Rattle.toml_scalar.specs.declared.scalar.Scalar.{Scalar as Token}
use Rattle.toml_names.specs.model.Addresses.{Address}
use Rattle.toml_names.specs.model.Data.{kind_at}
use Rattle.toml_names.specs.mentions.Mentions.{Kind}
use Rattle.toml_names.specs.model.Indices.{IsLow}
use Rattle.toml_names.specs.model.Levels.{Elements, Members}
use Rattle.toml_names.specs.model.Parts.{HasPart}
use Rattle.toml_names.proofs.Proved.{has_part, step_there, datum_is, array-within, scalar-below, table-index}
use Rattle.toml_edits.specs.ListLaws.{DataIndicesAreLow}

no_kind : {P : Type 0} (o : Option Kind) → o ≡ None → IsSome o → P
no_kind o none some = absurd (true≢false (sym some ∙ ap is_some none))

array_small : (v : Vec Datum Global) → length v.items < 2 ^ 63
array_small v = let ok = v.ok.0 in let small = v.small in omega arith

below_array : (v : Vec Datum Global) (i : ℕ) → i < length v.items → i < 2 ^ 63
below_array v i low = let small = array_small v in omega arith

index_low : (i : ℕ) (d : Datum) → IsSome (kind_at d (Index i ∷ [])) → i < 2 ^ 63
index_low i d some = by (datum_is d)
  where
    at_index : (e : Datum) → d ≡ e → IsSome (kind_at e (Index i ∷ []))
    at_index e is = subst (λ x. IsSome (kind_at x (Index i ∷ []))) is some

    by : ((s : Token) × (d ≡ Scalar s)) ⊎ (((v : Elements) × (d ≡ Array v)) ⊎ ((m : Members) × (d ≡ Table m))) → i < 2 ^ 63
    by (inl (s, is)) = no_kind _ (scalar-below s (Index i) []) (at_index (Scalar s) is)
    by (inr (inl (v, is))) = below_array v i (array-within v i (at_index (Array v) is))
    by (inr (inr (m, is))) = no_kind _ (table-index m i []) (at_index (Table m) is)

step_low : (s : Step) (a : Address) (d : Datum) → IsSome (kind_at d (s ∷ [])) → IsLow (2 ^ 63) a → IsLow (2 ^ 63) (s ∷ a)
step_low (Name n) a d some low = (tt, low)
step_low (Index i) a d some low = (index_low i d some, low)

pub indices_are_low : DataIndicesAreLow
indices_are_low d [] some = tt
indices_are_low d (s ∷ a) some = step_low s a d (step_there d s a some) (by (has_part s d) (λ e h. indices_are_low e a h))
  where
    by : HasPart s d → ((e : Datum) → IsSome (kind_at e a) → IsLow (2 ^ 63) a) → IsLow (2 ^ 63) a
    by (None, is) next = no_kind _ (is a) some
    by (Some e, is) next = next e (subst IsSome (is a) some)
