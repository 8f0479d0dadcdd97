-- What an edit carries away: what it removes, and what is below a place that it sets.
use Rattle.std.proofs.Common.{◌≡◌, ℕ, ◌+◌, ◌-◌, ◌<◌, ◌^◌, List, [], ◌∷◌, ◌++◌, Option, Some, None, is_some, Bool, true, false, cond, refl, sym, ap, subst, ◌∙◌, append-nil, arith}
use Rattle.std.specs.Prelude.{not, option_map}
use Rattle.std.specs.Bool.{nat_lt, nat_eq}
use Rattle.std.specs.Str.{bytes_eq}
use Rattle.std.proofs.lemmas.Bool.Decides.{nat_tests}
use Rattle.toml_names.specs.declared.model.address.Step.{Step}
use Rattle.toml_names.specs.declared.model.address.Step.TheVariants.{Name, Index}
use Rattle.toml_names.specs.model.Addresses.{Address, same_step}
use Rattle.toml_names.specs.model.Indices.{IsLow}
use Rattle.toml_names.proofs.Proved.{same_step-equal}
use Rattle.toml_edits.specs.Carry.{Carrier, carry_below, parted, inserting, renaming, removing, setting, emptied, nowhere, up_from, down_above, to_name}
use Rattle.toml_edits.specs.Edits.{set, insert, rename, remove, new_section, new_element}
use Rattle.toml_edits.proofs.Along.{by_parts}
use Rattle.toml_edits.specs.declared.side.Side.{Side}
use Rattle.toml_edits.specs.declared.side.Side.TheVariants.{Apart, Below}
use Rattle.toml_edits.specs.Sides.{is_above, is_at_or_above, side}
use Rattle.toml_edits.specs.Fitting.{CarriesRest}
use Rattle.toml_edits.proofs.WalkEnds.{HasRoom}
use Rattle.toml_edits.proofs.WalkFronts.{room}

-- the carrier carries away what this place lies to in such a way, and nothing else
abbrev Spares : (Side → Bool) → Address → Carrier → Address → Type 0
Spares g r c a = is_some (c a) ≡ not (g (side r a))

under : (t : Step) (y : Option Address) → is_some (option_map (λ r. t ∷ r) y) ≡ is_some y
under t None = refl
under t (Some a) = refl

spares_below : (g : Side → Bool) → g Apart ≡ false → g Below ≡ false → (r : Address) (c : Carrier) (q a : Address) → ((b : Address) → a ≡ q ++ b → Spares g r c b) → Spares g (q ++ r) (carry_below q c) a
spares_below g far low r c [] a h = h a refl
spares_below g far low r c (t ∷ q) [] h = sym (ap not low)
spares_below g far low r c (t ∷ q) (u ∷ a) h = by (same_step t u) refl (spares_below g far low r c q a)
  where
    by : (b : Bool) → same_step t u ≡ b → (((b : Address) → a ≡ q ++ b → Spares g r c b) → Spares g (q ++ r) (carry_below q c) a)
        → is_some (cond b (option_map (λ f. u ∷ f) (carry_below q c a)) (Some (u ∷ a))) ≡ not (g (cond b (side (q ++ r) a) Apart))
    by false e next = sym (ap not far)
    by true e next = under u (carry_below q c a) ∙ next (λ b w. h b (ap (λ x. x ∷ a) (sym (same_step-equal t u e)) ∙ ap (λ x. t ∷ x) w))

emptied_spares : (a : Address) → Spares is_above [] emptied a
emptied_spares [] = refl
emptied_spares (t ∷ a) = refl

away_spares : (n : List ℕ) (a : Address) → Spares is_at_or_above (Name n ∷ []) (carry_below (Name n ∷ []) nowhere) a
away_spares n [] = refl
away_spares n (t ∷ a) = by (same_step (Name n) t) a
  where
    by : (b : Bool) (f : Address) → is_some (cond b (option_map (λ r. t ∷ r) None) (Some (t ∷ f))) ≡ not (is_at_or_above (cond b (side [] f) Apart))
    by false f = refl
    by true [] = refl
    by true (u ∷ f) = refl

down_spares : (i : ℕ) (a : Address) → Spares is_at_or_above (Index i ∷ []) (down_above i) a
down_spares i [] = refl
down_spares i (Name n ∷ a) = refl
down_spares i (Index j ∷ a) = by (nat_lt j i) refl (nat_eq j i) refl (nat_eq i j) refl a
  where
    by : (b : Bool) → nat_lt j i ≡ b → (d : Bool) → nat_eq j i ≡ d → (e : Bool) → nat_eq i j ≡ e → (f : Address)
        → is_some (cond b (Some (Index j ∷ f)) (cond d None (Some (Index (j - 1) ∷ f)))) ≡ not (is_at_or_above (cond e (side [] f) Apart))
    by b l d x false y f = spared b l d x y
      where
        spared : (b : Bool) → nat_lt j i ≡ b → (d : Bool) → nat_eq j i ≡ d → nat_eq i j ≡ false → is_some (cond b (Some (Index j ∷ f)) (cond d None (Some (Index (j - 1) ∷ f)))) ≡ true
        spared true l d x y = refl
        spared false l false x y = refl
        spared false l true x y = absurd (let e : j ≡ i = grind (arith, nat_tests) in grind (arith, nat_tests))
    by true l d x true y f = absurd (let e : i ≡ j = grind (arith, nat_tests) in grind (arith, nat_tests))
    by false l false x true y f = absurd (let e : i ≡ j = grind (arith, nat_tests) in grind (arith, nat_tests))
    by false l true x true y [] = refl
    by false l true x true y (t ∷ f) = refl

none_away : Side → Bool
none_away x = false

up_keeps : (i : ℕ) (b : Address) → HasRoom b → is_some (up_from i b) ≡ true
up_keeps i [] h = refl
up_keeps i (Name n ∷ b) h = refl
up_keeps i (Index j ∷ b) h = by (nat_lt j i) (nat_lt (j + 1) (2 ^ 64)) (let f : j + 1 < 2 ^ 64 = omega (arith, h) in grind (arith, nat_tests))
  where
    by : (x y : Bool) → y ≡ true → is_some (cond x (Some (Index j ∷ b)) (cond y (Some (Index (j + 1) ∷ b)) None)) ≡ true
    by true y e = refl
    by false true e = refl
    by false false e = cc

name_keeps : (n to : List ℕ) (b : Address) → is_some (to_name n to b) ≡ true
name_keeps n to [] = refl
name_keeps n to (Index i ∷ b) = refl
name_keeps n to (Name m ∷ b) = by (bytes_eq n m)
  where
    by : (x : Bool) → is_some (cond x (Some (Name to ∷ b)) (Some (Name m ∷ b))) ≡ true
    by true = refl
    by false = refl

all_kept : (c : Carrier) (q a : Address) → ((b : Address) → a ≡ q ++ b → is_some (c b) ≡ true) → is_some (carry_below q c a) ≡ true
unfolding none_away
all_kept c q a h = spares_below none_away refl refl [] c q a h

removed_spares : (a at : Address) → ¬ (at ≡ []) → is_some (removing (parted at) a) ≡ not (is_at_or_above (side at a))
removed_spares a at = by_parts (λ x p. ¬ (p ≡ []) → is_some (removing x a) ≡ not (is_at_or_above (side p a))) (λ n. absurd (n refl)) by at
  where
    by : (q : Address) (s : Step) → ¬ (q ++ s ∷ [] ≡ []) → is_some (removing (Some (q, s)) a) ≡ not (is_at_or_above (side (q ++ s ∷ []) a))
    by q (Name n) ne = spares_below is_at_or_above refl refl (Name n ∷ []) (carry_below (Name n ∷ []) nowhere) q a (λ b e. away_spares n b)
    by q (Index i) ne = spares_below is_at_or_above refl refl (Index i ∷ []) (down_above i) q a (λ b e. down_spares i b)

inserted_keeps : (a at : Address) → IsLow (2 ^ 64 - 1) a → is_some (inserting (parted at) a) ≡ true
inserted_keeps a at low = by_parts (λ x p. is_some (inserting x a) ≡ true) refl by at
  where
    by : (q : Address) (s : Step) → is_some (inserting (Some (q, s)) a) ≡ true
    by q (Name n) = refl
    by q (Index i) = all_kept (up_from i) q a (λ b e. up_keeps i b (room q a low b e))

renamed_keeps : (to : List ℕ) (a at : Address) → is_some (renaming (parted at) to a) ≡ true
renamed_keeps to a at = by_parts (λ x p. is_some (renaming x to a) ≡ true) refl by at
  where
    by : (q : Address) (s : Step) → is_some (renaming (Some (q, s)) to a) ≡ true
    by q (Name n) = all_kept (to_name n to) q a (λ b e. name_keeps n to b)
    by q (Index i) = refl

set_spares : (at a : Address) → ¬ (at ≡ []) → is_some (setting at a) ≡ not (is_above (side at a))
set_spares [] a ne = absurd (ne refl)
set_spares (s ∷ p) a ne = subst (λ x. is_some (carry_below (s ∷ p) emptied a) ≡ not (is_above (side x a))) (append-nil (s ∷ p)) (spares_below is_above refl refl [] emptied (s ∷ p) a (λ b e. emptied_spares b))

pub living : CarriesRest
living (set at v) a f = set_spares at a f.placed
living (insert at v) a f = inserted_keeps a at f.low
living (rename at to) a f = renamed_keeps to a at
living (remove at) a f = removed_spares a at f.placed
living (new_section at) a f = refl
living (new_element at) a f = refl
