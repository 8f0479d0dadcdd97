-- Whether a unit is ahead of a cursor.
use Rattle.std.proofs.Common.{◌≡◌, Bool, true, false, Option, Some, None, option_map, sym, ap, ◌∙◌}
use Rattle.std.specs.Prelude.{slice_get}
use Rattle.std.specs.Borrow.{Bor}
use Rattle.toml_units.specs.declared.cursor.UnitCursor.{UnitCursor}
use Rattle.toml_units.specs.declared.unit.Unit.{Unit as Made}
use Rattle.toml_units.specs.Cursors.{current, lined_by}
use Rattle.toml_units.specs.Lined.{LinedUnit}

abbrev is_there : {A : Type 0} → Option A → Bool
is_there None = false
is_there (Some x) = true

abbrev pub IsUnit : UnitCursor → Option (Bor Made) → Type 0
IsUnit c found = option_map (λ (u : Bor Made). u.now) found ≡ slice_get c.units.items c.place

at : (c : UnitCursor) (found : Option (Bor Made)) → IsUnit c found → current c ≡ option_map (lined_by c) (option_map (λ (u : Bor Made). u.now) found)
at c found h = ap (option_map (lined_by c)) (sym h)

pub one_ahead : (c : UnitCursor) (found : Option (Bor Made)) (b : Bool) → IsUnit c found → b ≡ is_there found → b ≡ true → (x : LinedUnit) × (current c ≡ Some x)
one_ahead c None b h is t = cc
one_ahead c (Some u) b h is t = (lined_by c u.now, at c (Some u) h)

pub none_ahead : (c : UnitCursor) (found : Option (Bor Made)) (b : Bool) → IsUnit c found → b ≡ is_there found → b ≡ false → current c ≡ None
none_ahead c None b h is t = at c None h
none_ahead c (Some u) b h is t = cc

pub seen_ahead : (c : UnitCursor) (found : Option (Bor Made)) (u : Bor Made) (x : LinedUnit) → IsUnit c found → found ≡ Some u → x ≡ lined_by c u.now → current c ≡ Some x
seen_ahead c found u x h is same = at c found h ∙ ap (λ (o : Option (Bor Made)). option_map (lined_by c) (option_map (λ (v : Bor Made). v.now) o)) is ∙ ap Some (sym same)
