-- Flags of units, read as marks.
use Rattle.std.proofs.Common.{◌≡◌, ℕ, zero, suc, Bool, true, List, [], ◌∷◌, Some, ap}
use Rattle.std.proofs.lemmas.Option.{same_Some}
use Rattle.std.specs.Prelude.{◌↔◌, slice_get}
use Rattle.toml_edits.specs.Edits.{Change}
use Rattle.toml_units.specs.Units.{TextUnit}
use Rattle.toml_checker.specs.Marks.{IsSet}
use Rattle.toml_checker.specs.Plain.{TellProtected}
use Rattle.toml_checker.specs.Protected.{IsProtected}

pub to_mark : (fs : List Bool) (i : ℕ) → slice_get fs i ≡ Some true → IsSet fs i
to_mark [] i h = cc
to_mark (f ∷ fs) zero h = same_Some f true h
to_mark (f ∷ fs) (suc i) h = to_mark fs i h

pub from_mark : (fs : List Bool) (i : ℕ) → IsSet fs i → slice_get fs i ≡ Some true
from_mark [] i h = cc
from_mark (f ∷ fs) zero h = ap Some h
from_mark (f ∷ fs) (suc i) h = from_mark fs i h

pub set_is_protected : (cs : List Change) (us : List TextUnit) (fs : List Bool) → TellProtected cs us fs → (i : ℕ) → IsSet fs i ↔ IsProtected cs us i
set_is_protected cs us fs h i = ((λ s. (h.1 i).0 (from_mark fs i s)), (λ p. to_mark fs i ((h.1 i).1 p)))
