-- What is noted of an edit one step further down, and what one step shows.
use Rattle.std.proofs.Common.{◌≡◌, ℕ, suc, [], ◌∷◌, Option, Some, None, Bool, true, false, cond, refl, ap, arith}
use Rattle.std.specs.Prelude.{max, option_map, option_and_then, ◌&&◌, ◌||◌}
use Rattle.toml_names.specs.declared.model.address.Step.{Step}
use Rattle.toml_names.specs.model.Addresses.{Address, same_step}
use Rattle.toml_edits.specs.declared.side.Side.{Side}
use Rattle.toml_edits.specs.declared.side.Side.TheVariants.{Apart}
use Rattle.toml_edits.specs.Sides.{is_at, is_below, is_at_or_above}
use Rattle.toml_edits.specs.Sides.{side}
use Rattle.toml_edits.specs.Notes.{Sort, deepest, with_side, untouched}
use Rattle.toml_edits.specs.Trees.{Told, Branch, Down, View, Seen, walk, told_above, told_at, seen_above, one_deeper}

-- what a walk shows behind one step
abbrev pub step_on : {T : Type 0} → View T → Bool → Address → Down T → Told (Option Seen)
step_on {T} v b a d = option_and_then (told_at (λ (w : Branch T). told_above w.to b (walk v w.tree a))) d

pub walk_none : {T : Type 0} (v : View T) (a : Address) → walk v None a ≡ Some (Some (untouched a))
walk_none v [] = refl
walk_none v (s ∷ a) = ap (told_above s false) (walk_none v a)

more_deep : (b : Bool) (n : ℕ) (r : Option ℕ) → one_deeper b (deepest (Some n) r) ≡ deepest (Some (suc n)) (one_deeper b r)
more_deep false n None = refl
more_deep true n None = let e : suc n ≡ max (suc n) 0 = omega arith in ap Some e
more_deep b n (Some m) = let e : suc (max n m) ≡ max (suc n) (suc m) = omega arith in ap Some e

deep_if : (c b : Bool) (n : ℕ) (r : Option ℕ) → one_deeper b (cond c (deepest (Some n) r) r) ≡ cond c (deepest (Some (suc n)) (one_deeper b r)) (one_deeper b r)
deep_if false b n r = refl
deep_if true b n r = more_deep b n r

-- one step further down the same is noted of a place that is one step longer
pub noted_above : (k : Sort) (n : ℕ) (x : Side) (s : Step) (b : Bool) (o : Seen) → seen_above s b (with_side k n x o) ≡ with_side k (suc n) x (seen_above s b o)
noted_above k n x s b o = ap (λ (r : Option ℕ). record { to = s ∷ o.to; set = (is_at x && k.sets) || o.set; below = is_below x || o.below; renamed = r }) (deep_if (is_at_or_above x && k.renames) b n o.renamed)

-- what is noted of what is told
abbrev pub noting : Sort → ℕ → Side → Told (Option Seen) → Told (Option Seen)
noting k n x z = option_map (option_map (with_side k n x)) z

pub apart : (k : Sort) (n : ℕ) (x : Told (Option Seen)) → noting k n Apart x ≡ x
apart k n None = refl
apart k n (Some None) = refl
apart k n (Some (Some o)) = refl

abbrev pub no_sort : Sort
no_sort = record { sets = false; renames = false }

-- an edit that sets and renames nothing notes nothing of what is one step down from its parent
pub unnoted : (n : ℕ) (s u : Step) (a : Address) (x : Told (Option Seen)) → noting no_sort n (side (s ∷ []) (u ∷ a)) x ≡ x
unnoted n s u a None = refl
unnoted n s u a (Some None) = refl
unnoted n s u a (Some (Some o)) = by (same_step s u) a
  where
    by : (b : Bool) (c : Address) → noting no_sort n (cond b (side [] c) Apart) (Some (Some o)) ≡ Some (Some o)
    by false c = refl
    by true [] = refl
    by true (t ∷ c) = refl
