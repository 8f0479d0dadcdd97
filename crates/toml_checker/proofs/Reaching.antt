-- What a set of addresses reaches, in the words of debts.
use Rattle.std.proofs.Common.{◌≡◌, ◌⊎◌, inl, inr, Bool, true, false, true≢false, ◌&&◌, ◌||◌, [], ◌∷◌, ◌++◌, Option, Some, None, refl, sym, ap, subst, ◌∙◌}
use Rattle.toml_names.specs.declared.model.address.Step.{Step}
use Rattle.toml_names.specs.declared.model.address_set.AddressSet.{AddressSet}
use Rattle.toml_names.specs.model.Addresses.{Address, same_step}
use Rattle.toml_names.specs.model.AddressSets.{IsRootAlone, ReachesMore, reaches, reaches_in, reaches_one}
use Rattle.toml_names.proofs.Proved.{same_step-equal, same_step-self}
use Rattle.toml_checker.specs.CarriedTo.{IsAtOrAbove}
use Rattle.toml_checker.specs.Debts.{IsKept, ReachesWith}

or_true : (x : Bool) → true ≡ (x || true)
or_true true = refl
or_true false = refl

root_reached : (whole : Bool) (p : Address) → reaches_one whole p [] ≡ true
root_reached whole [] = refl
root_reached whole (t ∷ p) = refl

-- a set that was there, or a new one, with one address more
pub kept_reaches : (o : Option AddressSet) (set new : AddressSet) (whole : Bool) (p : Address) → IsKept o set → ReachesMore set new whole p → ReachesWith o new whole p
kept_reaches None set new whole p alone more [] = more [] ∙ sym (root_reached whole p)
kept_reaches None set new whole p alone more (s ∷ a) = more (s ∷ a) ∙ ap (λ b. b || reaches_one whole p (s ∷ a)) (alone s a)
kept_reaches (Some old) set new whole p same more a = more a ∙ ap (λ (x : AddressSet). reaches x a || reaches_one whole p a) (sym same)

-- ---- one address, in the words of debts

both : (x y : Bool) → (x && y) ≡ true → (x ≡ true) × (y ≡ true)
both true y h = (refl, h)
both false y h = cc

-- at or above it, or below it, where that is meant
abbrev pub CoversOne : Bool → Address → Address → Type 0
CoversOne whole p a = IsAtOrAbove a p ⊎ ((whole ≡ true) × IsAtOrAbove p a)

pub one_covered : (whole : Bool) (p a : Address) → reaches_one whole p a ≡ true → CoversOne whole p a
one_covered whole [] [] h = inl ([], refl)
one_covered whole [] (s ∷ a) h = inr (h, (s ∷ a, refl))
one_covered whole (t ∷ p) [] h = inl (t ∷ p, refl)
one_covered whole (t ∷ p) (s ∷ a) h =
    let w = both (same_step t s) (reaches_one whole p a) h in
    by (same_step-equal t s w.0) (one_covered whole p a w.1)
  where
    by : t ≡ s → CoversOne whole p a → CoversOne whole (t ∷ p) (s ∷ a)
    by e (inl (rest, is)) = inl (rest, ap (λ x. t ∷ x) is ∙ ap (λ x. x ∷ (a ++ rest)) e)
    by e (inr (all, (rest, is))) = inr (all, (rest, ap (λ x. s ∷ x) is ∙ ap (λ x. x ∷ (p ++ rest)) (sym e)))

first_is : (s t : Step) (a b : Address) → s ∷ a ≡ t ∷ b → s ≡ t
first_is s t a b e = cc

rest_is : (s t : Step) (a b : Address) → s ∷ a ≡ t ∷ b → a ≡ b
rest_is s t a b e = cc

front_is : (whole : Bool) (s t : Step) (p a : Address) → t ≡ s → reaches_one whole p a ≡ true → reaches_one whole (t ∷ p) (s ∷ a) ≡ true
front_is whole s t p a e h = subst (λ x. reaches_one whole (t ∷ p) (x ∷ a) ≡ true) e (rw (same_step-self t) h)

above_reached : (whole : Bool) (p a rest : Address) → p ≡ a ++ rest → reaches_one whole p a ≡ true
above_reached whole p [] rest is = root_reached whole p
above_reached whole [] (s ∷ a) rest is = cc
above_reached whole (t ∷ p) (s ∷ a) rest is = front_is whole s t p a (first_is t s p (a ++ rest) is) (above_reached whole p a rest (rest_is t s p (a ++ rest) is))

below_reached : (p a rest : Address) → a ≡ p ++ rest → reaches_one true p a ≡ true
below_reached [] [] rest is = refl
below_reached [] (s ∷ a) rest is = refl
below_reached (t ∷ p) [] rest is = refl
below_reached (t ∷ p) (s ∷ a) rest is = front_is true s t p a (sym (first_is s t a (p ++ rest) is)) (below_reached p a rest (rest_is s t a (p ++ rest) is))

pub covered_one : (whole : Bool) (p a : Address) → CoversOne whole p a → reaches_one whole p a ≡ true
covered_one whole p a (inl (rest, is)) = above_reached whole p a rest is
covered_one whole p a (inr (all, (rest, is))) = subst (λ b. reaches_one b p a ≡ true) (sym all) (below_reached p a rest is)

-- ---- one more, as a choice

or_parts : (x y : Bool) → (x || y) ≡ true → (x ≡ true) ⊎ (y ≡ true)
or_parts true y h = inl refl
or_parts false y h = inr h

pub more_reached : (old : Option AddressSet) (new : AddressSet) (whole : Bool) (p a : Address) → ReachesWith old new whole p → reaches new a ≡ true → CoversOne whole p a ⊎ (reaches_in old a ≡ true)
more_reached old new whole p a more h = by (or_parts (reaches_in old a) (reaches_one whole p a) (sym (more a) ∙ h))
  where
    by : (reaches_in old a ≡ true) ⊎ (reaches_one whole p a ≡ true) → CoversOne whole p a ⊎ (reaches_in old a ≡ true)
    by (inl o) = inr o
    by (inr m) = inl (one_covered whole p a m)

pub still_reached : (old : Option AddressSet) (new : AddressSet) (whole : Bool) (p a : Address) → ReachesWith old new whole p → reaches_in old a ≡ true → reaches new a ≡ true
still_reached old new whole p a more h = more a ∙ rw h refl

pub now_reached : (old : Option AddressSet) (new : AddressSet) (whole : Bool) (p a : Address) → ReachesWith old new whole p → CoversOne whole p a → reaches new a ≡ true
now_reached old new whole p a more h = more a ∙ rw (covered_one whole p a h) (sym (or_true (reaches_in old a)))

pub none_reached : (a : Address) → ¬ (reaches_in None a ≡ true)
none_reached a h = true≢false (sym h)
