-- What was found of the units of the first text tells whether nothing protected is lost.
use Rattle.std.proofs.Common.{◌≡◌, ℕ, zero, suc, ◌<◌, ◌↔◌, ◌&&◌, ◌||◌, not, Bool, true, false, if◌then◌else◌, List, [], ◌∷◌, length, map, Option, Some, None, refl, sym, ap, subst, ◌∙◌, arith}
use Rattle.std.specs.Prelude.{IsTrue}
use Rattle.std.proofs.lemmas.List.{length-map}
use Rattle.toml_tree.specs.Spells.{Spells}
use Rattle.toml_tree.specs.Tree.{Doc}
use Rattle.toml_edits.specs.Edits.{Change}
use Rattle.toml_units.specs.Places.{is_line}
use Rattle.toml_units.specs.Plain.{Spanned, spanned}
use Rattle.toml_units.specs.Units.{TextUnit, units}
use Rattle.toml_checker.specs.declared.kept.Kept.{Kept}
use Rattle.toml_checker.specs.declared.tables.Part.TheVariants as parts
use Rattle.toml_checker.specs.Kept.{AllKept}
use Rattle.toml_checker.specs.Marks.{IsSet, reach_with, reaches, stops}
use Rattle.toml_checker.specs.Pairs.{IsFirst}
use Rattle.toml_checker.specs.Plain.{Site, site, stands, home_stands, home_with, is_kept, is_kept_by, next_line, flags_from, flags, TellProtected}
use Rattle.toml_checker.specs.Protected.{IsProtected}
use Rattle.toml_checker.specs.Traces.{Met, spans_of, paired_of, span_site, is_protected, home_behind, kept_with, kept_from, kept_over, nothing_kept}
use Rattle.toml_checker.proofs.Covers.{covers_from, covered}
use Rattle.toml_checker.proofs.Flags.{flags_tell}
use Rattle.toml_checker.proofs.FlagsSet.{set_is_protected}
use Rattle.toml_checker.proofs.KeptUnits.{all_kept_is}

-- the units that are marked in both lists
abbrev both : List Bool → List Bool → List Bool
both (f ∷ fs) (m ∷ ms) = (f && m) ∷ both fs ms
both _ _ = []

parts_true : (a b : Bool) → (a && b) ≡ true → (a ≡ true) × (b ≡ true)
parts_true true b h = (refl, h)
parts_true false b h = cc

both_true : (a b : Bool) → (a ≡ true) × (b ≡ true) → (a && b) ≡ true
both_true a b (p, q) = rw (p, q) refl

both_set : (fs ms : List Bool) → length fs ≡ length ms → (i : ℕ) → i < length ms → IsSet (both fs ms) i ↔ (IsSet fs i × IsSet ms i)
both_set [] ms long i low = absurd (omega arith)
both_set (f ∷ fs) [] long i low = absurd (omega arith)
both_set (f ∷ fs) (m ∷ ms) long zero low = (parts_true f m, both_true f m)
both_set (f ∷ fs) (m ∷ ms) long (suc i) low = both_set fs ms (omega arith) i (omega arith)

as_many_both : (fs ms : List Bool) → length fs ≡ length ms → length (both fs ms) ≡ length ms
as_many_both [] [] long = refl
as_many_both [] (m ∷ ms) long = absurd (omega arith)
as_many_both (f ∷ fs) [] long = absurd (omega arith)
as_many_both (f ∷ fs) (m ∷ ms) long = ap suc (as_many_both fs ms (omega arith))

-- ---- of a unit, by what is known of its line

home_next : (cs : List Change) (line : Option Site) (s : Site) → home_with cs (home_stands cs line) s ≡ home_stands cs (next_line line s)
home_next cs line s = by (is_line s.kind)
  where
    by : (b : Bool) → (if b then stands parts.Home cs s.address s.base else home_stands cs line) ≡ home_stands cs (if b then Some s else line)
    by true = refl
    by false = refl

-- ---- one walk

abbrev sites : List Spanned → List Site
sites us = map span_site us

-- each unit with a flag is reached
abbrev AllReached : Option ℕ → List Spanned → List Bool → List Bool → Type 0
AllReached reach us fs ms = (i : ℕ) → i < length us → IsSet fs i → IsSet (covers_from reach (stops us) (both fs ms)) i

one_more : (all f c : Bool) (n : ℕ) (fs cs : List Bool) → ((all && (not f || c)) ≡ true) × ((i : ℕ) → i < n → IsSet fs i → IsSet cs i)
    ↔ (all ≡ true) × ((i : ℕ) → i < suc n → IsSet (f ∷ fs) i → IsSet (c ∷ cs) i)
one_more all f c n fs cs = (to, from)
  where
    reached : (f c : Bool) → (not f || c) ≡ true → f ≡ true → c ≡ true
    reached true c h is = h
    reached false c h is = cc

    tested : (f c : Bool) → (f ≡ true → c ≡ true) → (not f || c) ≡ true
    tested true c h = h refl
    tested false c h = refl

    to : ((all && (not f || c)) ≡ true) × ((i : ℕ) → i < n → IsSet fs i → IsSet cs i)
        → (all ≡ true) × ((i : ℕ) → i < suc n → IsSet (f ∷ fs) i → IsSet (c ∷ cs) i)
    to (h, rest) = let w = parts_true all (not f || c) h in (w.0, by w.1)
      where
        by : (not f || c) ≡ true → (i : ℕ) → i < suc n → IsSet (f ∷ fs) i → IsSet (c ∷ cs) i
        by t zero low is = reached f c t is
        by t (suc i) low is = rest i (omega arith) is

    from : (all ≡ true) × ((i : ℕ) → i < suc n → IsSet (f ∷ fs) i → IsSet (c ∷ cs) i)
        → ((all && (not f || c)) ≡ true) × ((i : ℕ) → i < n → IsSet fs i → IsSet cs i)
    from (h, each) = (both_true all (not f || c) (h, tested f c (λ is. each 0 (omega arith) is)), λ i low is. each (suc i) (omega arith) is)

chain : {P Q R : Type 0} → P ↔ Q → Q ↔ R → P ↔ R
chain h k = ((λ p. k.0 (h.0 p)), (λ r. h.1 (k.1 r)))

kept_told : (cs : List Change) (line : Option Site) (k : Kept) (ms : List Met) → k.home ≡ home_stands cs line
    → ((kept_from cs k ms).all ≡ true) ↔ ((k.all ≡ true) × AllReached k.reach (spans_of ms) (flags_from cs line (sites (spans_of ms))) (paired_of ms))
kept_told cs line k [] home = ((λ h. (h, λ i low is. absurd (omega arith))), (λ h. h.0))
kept_told cs line k (m ∷ ms) home =
    chain (kept_told cs next (kept_with cs k u m.paired) ms home_is) (subst Told same (one_more k.all f (reaches reach u.stop) (length us) fs (covers_from reach (stops us) (both fs (paired_of ms)))))
  where
    u : Spanned
    u = m.lined.unit

    us : List Spanned
    us = spans_of ms

    next : Option Site
    next = next_line line (span_site u)

    fs : List Bool
    fs = flags_from cs next (sites us)

    f : Bool
    f = is_protected cs k u

    reach : Option ℕ
    reach = reach_with k.reach (f && m.paired) u.stop

    home_is : home_behind cs k u ≡ home_stands cs next
    home_is = ap (λ h. home_with cs h (span_site u)) home ∙ home_next cs line (span_site u)

    same : f ≡ is_kept u.kind cs next (span_site u)
    same = ap (λ h. is_kept_by u.kind cs h (span_site u)) home_is

    Told : Bool → Type 0
    Told x =
        ((k.all && (not f || reaches reach u.stop)) ≡ true) × AllReached reach us fs (paired_of ms)
        ↔ (k.all ≡ true) × AllReached k.reach (u ∷ us) (x ∷ fs) (m.paired ∷ paired_of ms)

pub same_sites : (us : List TextUnit) → sites (map spanned us) ≡ map site us
same_sites [] = refl
same_sites (u ∷ us) = ap (λ xs. site u ∷ xs) (same_sites us)

pub many_paired : (ms : List Met) → length (paired_of ms) ≡ length ms
many_paired ms = length-map ms (λ (m : Met). m.paired)

pub many_spans : (ms : List Met) → length (spans_of ms) ≡ length ms
many_spans ms = length-map ms (λ (m : Met). m.lined.unit)

many_flags : (cs : List Change) (line : Option Site) (ss : List Site) → length (flags_from cs line ss) ≡ length ss
many_flags cs line [] = refl
many_flags cs line (s ∷ ss) = ap suc (many_flags cs (next_line line s) ss)

module _ (cs : List Change) (d : Doc) (text : List ℕ) (ps : List (ℕ × ℕ)) (ms : List Met) (spells : Spells d text) (is : spans_of ms ≡ map spanned (units d.lines)) (pairs : (i : ℕ) → IsSet (paired_of ms) i ↔ IsFirst ps i) where
  abbrev ss : List Spanned
  ss = spans_of ms

  abbrev fs : List Bool
  fs = flags cs (sites ss)

  flagged : (i : ℕ) → IsSet fs i ↔ IsProtected cs (units d.lines) i
  flagged =
      set_is_protected cs (units d.lines) fs (subst (λ xs. TellProtected cs (units d.lines) (flags cs xs)) (sym (ap (λ us. sites us) is ∙ same_sites (units d.lines))) (flags_tell cs (units d.lines)))

  so_many : length fs ≡ length (paired_of ms)
  so_many = many_flags cs None (sites ss) ∙ length-map ss span_site ∙ many_spans ms ∙ sym (many_paired ms)

  told : IsTrue (kept_over cs ms).all ↔ AllReached None ss fs (paired_of ms)
  told = chain (kept_told cs None nothing_kept ms refl) ((λ h. h.1), (λ h. (refl, h)))

  pub all_kept : IsTrue (kept_over cs ms).all ↔ AllKept cs d ps
  all_kept =
      let n : ℕ = length ss in
      let holders = both fs (paired_of ms) in
      let ends : length (stops ss) ≡ n = length-map ss (λ (u : Spanned). u.stop) in
      let long : length holders ≡ length (stops ss) = as_many_both fs (paired_of ms) so_many ∙ many_paired ms ∙ sym (many_spans ms) ∙ sym ends in
      chain told (all_kept_is cs d text ps spells ss is n refl fs flagged (paired_of ms) (λ i low. pairs i)
      holders (λ i low. both_set fs (paired_of ms) so_many i (omega (arith, low, many_paired ms, many_spans ms)))
      (covers_from None (stops ss) holders) (λ i low. covered (stops ss) holders long i (omega (arith, low, ends))))

pub all_kept_is_told : (cs : List Change) (d : Doc) (text : List ℕ) (ps : List (ℕ × ℕ)) (ms : List Met) → Spells d text
    → spans_of ms ≡ map spanned (units d.lines)
    → ((i : ℕ) → IsSet (paired_of ms) i ↔ IsFirst ps i) → IsTrue (kept_over cs ms).all ↔ AllKept cs d ps
all_kept_is_told cs d text ps ms spells is pairs = all_kept cs d text ps ms spells is pairs
