-- The tests of addresses.
use Rattle.std.proofs.Common.{◌≡◌, Bool, true, false, [], ◌∷◌, ◌++◌, refl}
use Rattle.toml_names.specs.model.Addresses.{Address, IsAbove, same_address, is_above}
use Rattle.toml_names.proofs.Proved.{above_is_above, same_address-decides}

pub differ : (a b : Address) → ¬ (a ≡ b) → same_address a b ≡ false
differ a b apart = by (same_address a b) refl
  where
    by : (t : Bool) → same_address a b ≡ t → t ≡ false
    by true same = absurd (apart ((same_address-decides a b).0 same))
    by false _ = refl

pub above_true : (a b : Address) → IsAbove a b → is_above a b ≡ true
above_true a b above = (above_is_above a b).1 above

-- what is above is not there itself
pub above_apart : (p a : Address) → IsAbove p a → ¬ (a ≡ p)
above_apart [] a (t, r, is) e = cc
above_apart (s ∷ p) [] (t, r, is) e = cc
above_apart (s ∷ p) (u ∷ a) (t, r, is) e = let tail : a ≡ p ++ t ∷ r = cc in let same : a ≡ p = cc in above_apart p a (t, r, tail) same

-- an address is the same as itself
pub self : (a : Address) → same_address a a ≡ true
self a = (same_address-decides a a).1 refl
