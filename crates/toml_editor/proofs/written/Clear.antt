-- Addresses that another is neither at nor above.
use Rattle.std.proofs.Common.{◌≡◌, ℕ, Bool, true, false, List, [], ◌∷◌, ◌++◌, map, refl, append_assoc}
use Rattle.toml_names.specs.declared.model.address.Step.{Step}
use Rattle.toml_names.specs.declared.model.address.Step.TheVariants.{Name}
use Rattle.toml_names.specs.model.Addresses.{Address, IsAbove, same_address, is_above, child, below}
use Rattle.toml_names.specs.mentions.Keys.{Key}
use Rattle.toml_names.specs.mentions.Clear.{IsClear}
use Rattle.toml_names.proofs.Proved.{above_is_above, not_above_next, same_address-decides}

pub clear_more : {p at : Address} (s : Step) → IsClear p at → ¬ (p ≡ at ++ s ∷ []) → IsClear p (at ++ s ∷ [])
clear_more {p} {at} s clear apart = record { apart = apart; not_above = not_above_next p at s clear }

-- the tests
pub differ : (a b : Address) → ¬ (a ≡ b) → same_address a b ≡ false
differ a b apart = by (same_address a b) refl
  where
    by : (t : Bool) → same_address a b ≡ t → t ≡ false
    by true same = absurd (apart ((same_address-decides a b).0 same))
    by false _ = refl

pub above_false : (a b : Address) → ¬ IsAbove a b → is_above a b ≡ false
above_false a b not = by (is_above a b) refl
  where
    by : (t : Bool) → is_above a b ≡ t → t ≡ false
    by true is = absurd (not ((above_is_above a b).0 is))
    by false _ = refl

pub above_true : (a b : Address) → IsAbove a b → is_above a b ≡ true
above_true a b above = (above_is_above a b).1 above

-- what is above is not there itself
pub above_apart : (p a : Address) → IsAbove p a → ¬ (a ≡ p)
above_apart [] a (t, r, is) e = cc
above_apart (s ∷ p) [] (t, r, is) e = cc
above_apart (s ∷ p) (u ∷ a) (t, r, is) e = let tail : a ≡ p ++ t ∷ r = cc in let same : a ≡ p = cc in above_apart p a (t, r, tail) same

-- addresses that are the same are equal, and each is the same as itself
pub same_is : (a b : Address) → same_address a b ≡ true → a ≡ b
same_is a b same = (same_address-decides a b).0 same

pub self : (a : Address) → same_address a a ≡ true
self a = (same_address-decides a a).1 refl

-- at the address or below it
abbrev pub IsUnder : Address → Address → Type 0
IsUnder p at = (r : Address) × (at ≡ p ++ r)

pub below-cons : (at : Address) (n : List ℕ) (ns : Key) → below (child at n) ns ≡ below at (n ∷ ns)
below-cons at n ns = append_assoc at (Name n ∷ []) (map Name ns)
