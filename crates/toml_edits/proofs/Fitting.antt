-- A value of which no address is too long.
use Rattle.std.proofs.Common.{◌≡◌, inl, inr, ℕ, ◌-◌, List, length, Option, Some, None, IsSome, is_some, refl, ap, subst, sym, true≢false, arith}
use Rattle.toml_tree.proofs.Proved.{one_value}
use Rattle.toml_tree.specs.declared.profile.Profile.{Profile}
use Rattle.toml_names.specs.model.Addresses.{Address}
use Rattle.toml_names.specs.model.Data.{Kinds, IsFact}
use Rattle.toml_names.specs.mentions.Mentions.{Kind, value_facts}
use Rattle.toml_names.specs.mentions.Rules.{IsShort}
use Rattle.toml_edits.specs.Faults.{IsTooDeep}
use Rattle.toml_edits.specs.Reach.{Reaches}
use Rattle.toml_edits.specs.ValueTexts.{IsLongValue, IsGoodValue}

not_long : (profile : Profile) (text : List ℕ) (kinds : Kinds) → IsGoodValue profile text kinds → ¬ IsLongValue profile text
not_long profile text kinds good long =
    long.long (subst (λ v. IsShort (value_facts v)) (one_value good.value.tree long.value.tree 0 text good.value.is_value.0 long.value.is_value.0) good.short)

-- a text has one map of data
one_map : (profile : Profile) (text : List ℕ) (kinds other : Kinds) → IsGoodValue profile text kinds → IsGoodValue profile text other → (r : Address) (k : Kind) → other r ≡ Some k → kinds r ≡ Some k
one_map profile text kinds other good too r k is =
    (good.facts r k).1 (subst (λ v. IsFact (value_facts v) r k) (one_value too.value.tree good.value.tree 0 text too.value.is_value.0 good.value.is_value.0) ((too.facts r k).0 is))

stands : (profile : Profile) (text : List ℕ) (kinds other : Kinds) → IsGoodValue profile text kinds → IsGoodValue profile text other → (r : Address) → IsSome (other r) → IsSome (kinds r)
stands profile text kinds other good too r some = by (other r) refl some
  where
    by : (o : Option Kind) → other r ≡ o → IsSome o → IsSome (kinds r)
    by None is h = absurd (true≢false (sym h))
    by (Some k) is h = ap is_some (one_map profile text kinds other good too r k is)

pub fits : (profile : Profile) (at : Address) (text : List ℕ) (kinds : Kinds) (steps : ℕ) → IsGoodValue profile text kinds → steps ≡ 101 - length at → ¬ Reaches kinds steps → ¬ IsTooDeep profile at text
fits profile at text kinds steps good room near (inl long) = not_long profile text kinds good long
fits profile at text kinds steps good room near (inr (v, too, r, some, far)) = near (r, stands profile text kinds v good too r some, omega arith)
