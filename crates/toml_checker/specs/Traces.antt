-- Units of a text that were walked past in text order, each with its newline, and which of them are paired.
use Rattle.std.specs.Prelude.{◌≡◌, ◌⊎◌, ◌&&◌, ◌||◌, not, ℕ, Bool, true, List, [], ◌∷◌, ◌++◌, map, Option, Some, None, MatchOption, slice_get}
use Rattle.toml_edits.specs.Edits.{Change}
use Rattle.toml_units.specs.declared.unit.UnitKind.TheVariants as kinds
use Rattle.toml_units.specs.Lined.{LinedUnit}
use Rattle.toml_units.specs.View.{Spanned}
use Rattle.toml_checker.specs.declared.kept.Kept.{Kept}
use Rattle.toml_checker.specs.declared.kept.Fate.{Fate}
use Rattle.toml_checker.specs.CarriedTo.{IsCarriedTo}
use Rattle.toml_checker.specs.Marks.{reach_with, reaches}
use Rattle.toml_checker.specs.Plain.{Site, home_with, is_kept_by}
use Rattle.toml_checker.specs.UnmarkedComments.{text_at}

-- a unit that was walked past, and whether it is paired
pub record Met : Type 0 where
  pub lined : LinedUnit
  pub paired : Bool

abbrev pub lined_of : List Met → List LinedUnit
lined_of ms = map (λ (m : Met). m.lined) ms

abbrev pub spans_of : List Met → List Spanned
spans_of ms = map (λ (m : Met). m.lined.unit) ms

abbrev pub paired_of : List Met → List Bool
paired_of ms = map (λ (m : Met). m.paired) ms

abbrev pub span_site : Spanned → Site
span_site u = record { kind = u.kind; address = u.address; base = u.base }

-- ---- the first text: that nothing protected is lost

-- of a unit at the end of the first text so far, whether its line is still there, and whether the unit is protected
abbrev pub home_behind : List Change → Kept → Spanned → Bool
home_behind cs k u = home_with cs k.home (span_site u)

abbrev pub is_protected : List Change → Kept → Spanned → Bool
is_protected cs k u = is_kept_by u.kind cs (home_behind cs k u) (span_site u)

-- what becomes of the unit,
abbrev pub fate_of : List Change → Kept → Spanned → Fate
fate_of cs k u = record { protected = is_protected cs k u; home = home_behind cs k u; end = u.stop }

-- whether it is protected and ends further than each protected one that is paired,
abbrev pub must_pair : Kept → Fate → Bool
must_pair k s = s.protected && not (reaches k.reach s.end)

-- and what was found behind it
abbrev pub kept_past : Kept → Fate → Bool → Kept
kept_past k s paired = record {
  home = s.home;
  reach = reach_with k.reach (s.protected && paired) s.end;
  all = k.all && (not s.protected || reaches (reach_with k.reach (s.protected && paired) s.end) s.end);
}

-- what was found, behind one unit more
abbrev pub kept_with : List Change → Kept → Spanned → Bool → Kept
kept_with cs k u paired = kept_past k (fate_of cs k u) paired

abbrev pub kept_from : List Change → Kept → List Met → Kept
kept_from cs k [] = k
kept_from cs k (m ∷ ms) = kept_from cs (kept_with cs k m.lined.unit m.paired) ms

abbrev pub nothing_kept : Kept
nothing_kept = record { home = true; reach = None; all = true }

-- what was found of units
abbrev pub kept_over : List Change → List Met → Kept
kept_over cs = kept_from cs nothing_kept

-- ---- pairs

-- two lines have one newline, or one of them has none, which is the last of its text
abbrev pub KeepsLine : List ℕ → List ℕ → Type 0
KeepsLine one other = (one ≡ other) ⊎ (one ≡ []) ⊎ (other ≡ [])

-- units of two texts are of one kind, with the same bytes, the edits carry the one's address to the other's, and lines keep their newline
abbrev pub AreAlike : List Change → List ℕ → LinedUnit → List ℕ → LinedUnit → Type 0
AreAlike cs text x other y = (x.unit.kind ≡ y.unit.kind) × (text_at text x.unit ≡ text_at other y.unit) × IsCarriedTo cs x.unit.address y.unit.address
    × (x.unit.kind ≡ kinds.Line → KeepsLine x.newline y.newline)

-- so it is of the units at these places
pub record StandsIn (cs : List Change) (text : List ℕ) (xs : List LinedUnit) (other : List ℕ) (ys : List LinedUnit) (i k : ℕ) : Type 0 where
  pub first : LinedUnit
  pub first_is : slice_get xs i ≡ Some first
  pub second : LinedUnit
  pub second_is : slice_get ys k ≡ Some second
  pub alike : AreAlike cs text first other second

-- Behind these units comes this one, if there is one, and more; together they may be all of a text.
abbrev pub MayBe : Option LinedUnit → List LinedUnit → List LinedUnit → Type 0
MayBe next past all = MatchOption next (all ≡ past) (λ x. (more : List LinedUnit) × (all ≡ past ++ x ∷ more))
