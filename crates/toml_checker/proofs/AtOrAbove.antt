-- Addresses at or above others.
use Rattle.std.proofs.Common.{◌≡◌, true, false, [], ◌∷◌, sym, ◌∙◌}
use Rattle.std.proofs.lemmas.List.{append-nil}
use Rattle.toml_names.specs.model.Addresses.{Address, same_address, is_above}
use Rattle.toml_names.proofs.Proved.{same_address-decides, above_is_above}
use Rattle.toml_checker.specs.CarriedTo.{IsAtOrAbove}

pub same_is : (p a : Address) → same_address p a ≡ true → IsAtOrAbove p a
same_is p a h = ([], sym ((same_address-decides p a).0 h) ∙ sym (append-nil p))

pub above_is : (p a : Address) → is_above p a ≡ true → IsAtOrAbove p a
above_is p a h = let w = (above_is_above p a).0 h in (w.0 ∷ w.1, w.2)

pub above_or_same : (p a : Address) → same_address p a ≡ false → IsAtOrAbove p a → is_above p a ≡ true
above_or_same p a h ([], is) = let e : same_address p a ≡ true = (same_address-decides p a).1 (sym (append-nil p) ∙ sym is) in cc
above_or_same p a h (s ∷ rest, is) = (above_is_above p a).1 (s, rest, is)
