-- What data have where they are seen to be a table or an array.
use Rattle.std.proofs.Common.{◌≡◌, ◌⊎◌, ◌&&◌, inl, inr, Bool, true, false, [], Some, None, refl, sym, ap, ◌∙◌}
use Rattle.std.proofs.lemmas.Option.{same_Some}
use Rattle.std.specs.Prelude.{not}
use Rattle.toml_scalar.specs.Values.{scalar_value}
use Rattle.toml_scalar.specs.declared.scalar.Scalar.{Scalar as Token}
use Rattle.toml_names.specs.declared.model.datum.Datum.TheVariants.{Array, Scalar, Table}
use Rattle.toml_names.specs.mentions.Mentions.{Kind, a_scalar, a_table, an_array}
use Rattle.toml_names.specs.model.Data.{Kinds, kind_in}
use Rattle.toml_names.specs.model.Levels.{Elements, Members}
use Rattle.toml_names.proofs.Proved.{array-here, kind_at-scalar, table-here}
use Rattle.toml_editor.specs.Making.{IsMany}

pub many_table : (m : Members) → IsMany (Some (Table m))
many_table m = inl (table-here m)

pub many_array : (v : Elements) → IsMany (Some (Array v))
many_array v = inr (array-here v)

a_scalar_is_one : (s : Token) (k : Kind) → kind_in (Some (Scalar s)) [] ≡ Some k → k ≡ a_scalar (scalar_value s)
a_scalar_is_one s k is = same_Some k (a_scalar (scalar_value s)) (sym is ∙ ap (λ (f : Kinds). f []) (kind_at-scalar s))

pub scalar_is_one : (s : Token) → ¬ IsMany (Some (Scalar s))
scalar_is_one s (inl is) = let e = a_scalar_is_one s a_table is in cc
scalar_is_one s (inr is) = let e = a_scalar_is_one s an_array is in cc

pub none_is_one : ¬ IsMany None
none_is_one (inl is) = cc
none_is_one (inr is) = cc

-- what an answer whether an edit may be refused for not being made says of both
pub not_made_is : (done may : Bool) (r : Bool) → r ≡ (not done && may) → r ≡ true → (done ≡ false) × (may ≡ true)
not_made_is true may r is set = let e : false ≡ true = sym is ∙ set in cc
not_made_is false may r is set = (refl, sym is ∙ set)

pub made_is : (done may : Bool) (r : Bool) → r ≡ (not done && may) → r ≡ false → (done ≡ true) ⊎ (may ≡ false)
made_is true may r is other = inl refl
made_is false may r is other = inr (sym is ∙ other)
