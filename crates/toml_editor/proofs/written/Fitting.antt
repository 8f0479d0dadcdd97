-- What an edit without a fault tells of its value and its address.
use Rattle.std.proofs.Common.{◌≡◌, ◌⊎◌, inl, inr, ℕ, ◌+◌, ◌<◌, ◌≤◌, List, [], ◌∷◌, ◌++◌, length, All, Option, Some, IsSome, refl, ap, ◌∙◌, subst, lt_of_not-le, arith}
use Rattle.toml_tree.specs.Profiles.{IsValueIn}
use Rattle.toml_tree.specs.Tree.{Value, Line}
use Rattle.toml_tree.specs.declared.profile.Profile.{Profile}
use Rattle.toml_tree.proofs.Proved.{one_value}
use Rattle.toml_names.specs.declared.model.address.Step.{Step}
use Rattle.toml_names.specs.mentions.Mentions.{Kind, named, value_facts}
use Rattle.toml_names.specs.mentions.Rules.{KeepsRules, max_steps}
use Rattle.toml_names.specs.model.Addresses.{Address}
use Rattle.toml_names.specs.model.Data.{Kinds, IsDataOf}
use Rattle.toml_names.specs.model.Places.{IsNamed}
use Rattle.toml_edits.specs.ValueTexts.{IsGoodValue}
use Rattle.toml_editor.proofs.Each.{each_weaker}
use Rattle.toml_editor.proofs.written.Pairwise.{Has, has_of_any, any_of_has, has_weaker, all_of_each, members_self, taken}

pub at_most : (a b : ℕ) → ¬ (b < a) → a ≤ b
at_most a b not = let low : a < b + 1 = lt_of_not-le (λ high. not (let h = high in omega (arith, h))) in omega (arith, low)

there_is : (o : Option Kind) (k : Kind) → o ≡ Some k → IsSome o
there_is o k is = cc

module _ (profile : Profile) (text : List ℕ) (v : Value) (kinds : Kinds) (value : IsValueIn profile v text) (good : IsGoodValue profile text kinds) where
  same_tree : good.value.tree ≡ v
  same_tree = one_value good.value.tree v 0 text good.value.is_value.0 value.0

  pub keeps_value : KeepsRules (value_facts v)
  keeps_value = subst (λ t. KeepsRules (value_facts t)) same_tree good.value.keeps

  -- the value's addresses fit, where the row of long ones does not hold
  pub all_fit : (p : Address) → ((r : Address) → IsSome (kinds r) → max_steps < length p + length r → ⊥) → All (λ m. length p + length m.address ≤ max_steps) (value_facts v)
  all_fit p not =
      let facts : IsDataOf (value_facts v) kinds = subst (λ t. IsDataOf (value_facts t) kinds) same_tree good.facts in
      all_of_each _ (value_facts v)
      (each_weaker (λ m. Has (λ y. y ≡ m) (value_facts v)) (λ m. length p + length m.address ≤ max_steps)
      (λ m there. at_most (length p + length m.address) max_steps (not m.address (there_is (kinds m.address) m.kind
      ((facts m.address m.kind).1 (any_of_has _ (value_facts v) (has_weaker (λ y. y ≡ m) (λ y. (y.address ≡ m.address) × (y.kind ≡ m.kind)) (λ y is. (ap (λ u. u.address) is, ap (λ u. u.kind) is)) (value_facts v) there))))))
      (value_facts v) (members_self (value_facts v)))

-- where the data have nothing, nothing is named
pub unnamed : (lines : List Line) (old : Kinds) (p : Address) → IsDataOf (named lines) old → ¬ IsSome (old p) → ¬ IsNamed (named lines) p
unnamed lines old p is none there = from (has_of_any (λ m. m.address ≡ p) (named lines) there)
  where
    from : Has (λ m. m.address ≡ p) (named lines) → ⊥
    from h =
        taken (λ m. m.address ≡ p) ⊥ (named lines)
        (λ m inside here. none (there_is (old p) m.kind ((is p m.kind).1 (any_of_has _ (named lines) (has_weaker (λ y. y ≡ m) (λ y. (y.address ≡ p) × (y.kind ≡ m.kind)) (λ y e. (ap (λ u. u.address) e ∙ here, ap (λ u. u.kind) e)) (named lines) inside))))) h

pub last_step : (p : Address) → (p ≡ []) ⊎ ((q : Address) × (s : Step) × (p ≡ q ++ s ∷ []))
last_step [] = inl refl
last_step (t ∷ p) = elim (last_step p) [ inl e ↦ inr ([], t, ap (λ l. t ∷ l) e) | inr w ↦ inr (t ∷ w.0, w.1, ap (λ l. t ∷ l) w.2) ]
