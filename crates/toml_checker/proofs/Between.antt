-- Between the comment of a line and a later unit stands the later unit's line.
use Rattle.std.proofs.Common.{◌≡◌, ◌⊎◌, inl, inr, ℕ, zero, suc, ◌<◌, ◌≤◌, List, [], ◌∷◌, Option, Some, Bool, true, false, refl, sym, ap, subst, ◌∙◌, arith}
use Rattle.std.specs.Prelude.{slice_get}
use Rattle.std.proofs.lemmas.Option.{same_Some}
use Rattle.toml_units.specs.declared.unit.UnitKind.{UnitKind}
use Rattle.toml_units.specs.declared.unit.UnitKind.TheVariants as kinds
use Rattle.toml_units.specs.Apart.{IsMember, IsBefore, EachTwo}
use Rattle.toml_units.specs.Places.{is_line, line_with, line_from}
use Rattle.toml_units.specs.Tails.{TailsEnd}
use Rattle.toml_units.specs.Units.{TextUnit}
use Rattle.toml_checker.proofs.Each.{each_get}

-- a line at a place that is the line of the unit at another
pub record LineAt (us : List TextUnit) (line : Option TextUnit) (j : ℕ) : Type 0 where
  pub place : ℕ
  pub unit : TextUnit
  pub low : place ≤ j
  pub there : slice_get us place ≡ Some unit
  pub kind : unit.kind ≡ kinds.Line
  pub is : line_from line us j ≡ Some unit

abbrev further : (u : TextUnit) (us : List TextUnit) (line : Option TextUnit) (j : ℕ) → LineAt us (line_with line u) j → LineAt (u ∷ us) line (suc j)
further u us line j l = record { place = suc l.place; unit = l.unit; low = omega (arith, l.low); there = l.there; kind = l.kind; is = l.is }

is_its_line : (line : Option TextUnit) (u : TextUnit) → u.kind ≡ kinds.Line → line_with line u ≡ Some u
is_its_line line u k = let b : is_line u.kind ≡ true = ap is_line k in rw b refl

line_kind : (k : UnitKind) → is_line k ≡ true → k ≡ kinds.Line
line_kind kinds.Line e = refl
line_kind kinds.TailComment e = cc
line_kind kinds.InnerComment e = cc
line_kind kinds.Element e = cc
line_kind kinds.Pair e = cc

from_any : (us : List TextUnit) (line : Option TextUnit) (j : ℕ) (w : TextUnit) → slice_get us j ≡ Some w → (line_from line us j ≡ line) ⊎ LineAt us line j
from_any [] line j w is = cc
from_any (u ∷ us) line zero w is = by (is_line u.kind) refl
  where
    by : (b : Bool) → is_line u.kind ≡ b → (line_with line u ≡ line) ⊎ LineAt (u ∷ us) line 0
    by false e = inl (rw e refl)
    by true e = inr (record { place = 0; unit = u; low = omega arith; there = refl; kind = line_kind u.kind e; is = rw e refl })
from_any (u ∷ us) line (suc j) w is = by (is_line u.kind) refl (from_any us (line_with line u) j w is)
  where
    by : (b : Bool) → is_line u.kind ≡ b → (line_from (line_with line u) us j ≡ line_with line u) ⊎ LineAt us (line_with line u) j → (line_from (line_with line u) us j ≡ line) ⊎ LineAt (u ∷ us) line (suc j)
    by b e (inr l) = inr (further u us line j l)
    by false e (inl same) = inl (same ∙ rw e refl)
    by true e (inl same) = inr (record { place = 0; unit = u; low = omega arith; there = refl; kind = line_kind u.kind e; is = same ∙ rw e refl })

-- the first unit is a line
from_line : (u : TextUnit) (us : List TextUnit) (line : Option TextUnit) (j : ℕ) (w : TextUnit) → u.kind ≡ kinds.Line → slice_get (u ∷ us) j ≡ Some w → LineAt (u ∷ us) line j
from_line u us line zero w k is = record { place = 0; unit = u; low = omega arith; there = refl; kind = k; is = is_its_line line u k }
from_line u us line (suc j) w k is = by (from_any us (line_with line u) j w is)
  where
    by : (line_from (line_with line u) us j ≡ line_with line u) ⊎ LineAt us (line_with line u) j → LineAt (u ∷ us) line (suc j)
    by (inr l) = further u us line j l
    by (inl same) = record { place = 0; unit = u; low = omega arith; there = refl; kind = k; is = same ∙ is_its_line line u k }

pub record Between (us : List TextUnit) (line : Option TextUnit) (i j : ℕ) : Type 0 where
  pub at : LineAt us line j
  pub high : i < at.place

-- behind a line's comment
pub between : (us : List TextUnit) (line : Option TextUnit) (i j : ℕ) (x w : TextUnit) → TailsEnd us → i < j → slice_get us i ≡ Some x → slice_get us j ≡ Some w → x.kind ≡ kinds.TailComment → Between us line i j
between [] line i j x w h lt is are tail = cc
between (u ∷ us) line i zero x w h lt is are tail = absurd (omega arith)
between (u ∷ []) line zero (suc j) x w h lt is are tail = cc
between (u ∷ v ∷ us) line zero (suc j) x w h lt is are tail =
    let e : u ≡ x = same_Some u x is in
    let l = from_line v us (line_with line u) j w (h.0 (ap (λ (y : TextUnit). y.kind) e ∙ tail)) are in
    record { at = further u (v ∷ us) line j l; high = omega arith }
between (u ∷ us) line (suc i) (suc j) x w h lt is are tail =
    let b = between us (line_with line u) i j x w h.1 (omega arith) is are tail in
    record { at = further u us line j b.at; high = omega (arith, b.high) }

-- ---- units by their places

pub member_at : (us : List TextUnit) (j : ℕ) (w : TextUnit) → slice_get us j ≡ Some w → IsMember w us
member_at [] j w is = cc
member_at (u ∷ us) zero w is = inl (sym (same_Some u w is))
member_at (u ∷ us) (suc j) w is = inr (member_at us j w is)

pub before_at : (us : List TextUnit) (i j : ℕ) (u w : TextUnit) → i < j → slice_get us i ≡ Some u → slice_get us j ≡ Some w → IsBefore u w us
before_at [] i j u w lt is are = cc
before_at (x ∷ us) i zero u w lt is are = absurd (omega arith)
before_at (x ∷ us) zero (suc j) u w lt is are = inl (sym (same_Some x u is), member_at us j w are)
before_at (x ∷ us) (suc i) (suc j) u w lt is are = inr (before_at us i j u w (omega arith) is are)

pub two_at : (R : TextUnit → TextUnit → Type 0) (us : List TextUnit) (i j : ℕ) (u w : TextUnit) → EachTwo R us → i < j → slice_get us i ≡ Some u → slice_get us j ≡ Some w → R u w
two_at R [] i j u w h lt is are = cc
two_at R (x ∷ us) i zero u w h lt is are = absurd (omega arith)
two_at R (x ∷ us) zero (suc j) u w h lt is are = subst (λ (y : TextUnit). R y w) (same_Some x u is) (each_get (R x) us j w h.0 are)
two_at R (x ∷ us) (suc i) (suc j) u w h lt is are = two_at R us i j u w h.1 (omega arith) is are
