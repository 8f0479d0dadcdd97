-- What was found of the units of the second text tells whether a line or a comment is added unasked.
use Rattle.std.proofs.Common.{◌≡◌, ℕ, ◌<◌, ◌≤◌, ◌↔◌, Bool, true, false, if◌then◌else◌, List, [], ◌∷◌, length, map, Option, Some, None, refl, sym, ap, subst, ◌∙◌, arith}
use Rattle.std.specs.List.{flat_map}
use Rattle.std.specs.Prelude.{IsTrue, slice_get}
use Rattle.std.proofs.lemmas.List.{length-map}
use Rattle.std.proofs.lemmas.Option.{get_or_from_slice_get}
use Rattle.toml_tree.specs.Spells.{EachIs, Spells}
use Rattle.toml_tree.specs.Tree.{Doc}
use Rattle.toml_tree.specs.declared.profile.Profile.{Profile}
use Rattle.toml_edits.specs.Edits.{Change}
use Rattle.toml_units.specs.declared.unit.UnitKind.TheVariants as kinds
use Rattle.toml_units.specs.Lined.{lined}
use Rattle.toml_units.specs.Plain.{Spanned, spanned}
use Rattle.toml_units.specs.Units.{units}
use Rattle.toml_checker.specs.declared.added.Added.{Added}
use Rattle.toml_checker.specs.declared.added.Asked.{Asked}
use Rattle.toml_checker.specs.declared.written.Written.{Written}
use Rattle.toml_checker.specs.Added.{Asks, HasAdded, IsLineAsked, is_new, new_from}
use Rattle.toml_checker.specs.Comments.{NoCommentsAdded, times}
use Rattle.toml_checker.specs.Counts.{plain}
use Rattle.toml_checker.specs.Lines.{NoLinesAdded}
use Rattle.toml_checker.specs.Marks.{IsSet, reach_with, stops}
use Rattle.toml_checker.specs.Pairs.{IsSecond}
use Rattle.toml_checker.specs.Traces.{Met, lined_of, paired_of, spans_of}
use Rattle.toml_checker.specs.UnmarkedComments.{text_at, unmarked}
use Rattle.toml_checker.specs.Walking.{AddsNoComments}
use Rattle.toml_checker.specs.WrittenComments.{HaveValues}
use Rattle.toml_checker.proofs.AddedComments.{none_added, all_asked, all_once}
use Rattle.toml_checker.proofs.AskedLines.{line_is_asked}
use Rattle.toml_checker.proofs.Covers.{covers_from, as_many_covers, covered}
use Rattle.toml_checker.proofs.Each.{each_all, each_get, image_at, whose_image}
use Rattle.toml_checker.proofs.LinedNewlines.{IsUnitAt, met_spans, unit_of, lined_of_unit}

-- the new comments are those that nothing paired covers
new_is : (reach : Option ℕ) (ms : List Met)
    → new_from reach ms ≡ unmarked (covers_from reach (stops (spans_of ms)) (paired_of ms)) (spans_of ms)
new_is reach [] = refl
new_is reach (m ∷ ms) =
    ap (λ (us : List Spanned). if is_new reach m then m.lined.unit ∷ us else us) (new_is (reach_with reach m.paired m.lined.unit.stop) ms)

module _ (profile : Profile) (cs : List Change) (asked : Asked) (e : Doc) (text : List ℕ) (ps : List (ℕ × ℕ)) (ms : List Met) (added : Added)
    (asks : Asks profile cs asked) (spells : Spells e text) (is : lined e.lines ≡ lined_of ms) (has : HasAdded asked text ms added) (pairs : (k : ℕ) → IsSet (paired_of ms) k ↔ IsSecond ps k) where
  -- ---- lines

  paired_at : (k : ℕ) (m : Met) → slice_get ms k ≡ Some m → (m.paired ≡ true) ↔ IsSecond ps k
  paired_at k m at =
      subst (λ b. (b ≡ true) ↔ IsSecond ps k) (get_or_from_slice_get (paired_of ms) k m.paired false (image_at (λ (m : Met). m.paired) ms k m at)) (pairs k)

  lines_asked : EachIs (IsLineAsked asked) ms → NoLinesAdded cs e ps
  lines_asked h k w there line =
      let x = lined_of_unit e text spells k w there in
      let m = whose_image (λ (m : Met). m.lined) ms k x.0 (subst (λ xs. slice_get xs k ≡ Some x.0) is x.1) in
      let same : IsUnitAt e text k m.0.lined w = subst (λ y. IsUnitAt e text k y w) (sym m.2) x.2 in
      (line_is_asked cs e text ps asked.debts asks.debts asked.edited asks.edited k m.0.lined w same line m.0.paired (paired_at k m.0 m.1)).0
      (each_get (IsLineAsked asked) ms k m.0 h m.1 (ap (λ (s : Spanned). s.kind) same.is ∙ line))

  all_lines : NoLinesAdded cs e ps → EachIs (IsLineAsked asked) ms
  all_lines all = each_all (IsLineAsked asked) ms (λ k m at a_line.
      let w = unit_of e text spells k m.lined (subst (λ xs. slice_get xs k ≡ Some m.lined) (sym is) (image_at (λ (m : Met). m.lined) ms k m at)) in
      let line : w.0.kind ≡ kinds.Line = sym (ap (λ (s : Spanned). s.kind) w.1.is) ∙ a_line in
      (line_is_asked cs e text ps asked.debts asks.debts asked.edited asks.edited k m.lined w.0 w.1 line m.paired (paired_at k m at)).1
      (all k w.0 w.1.there line))

  no_lines : IsTrue added.lines ↔ NoLinesAdded cs e ps
  no_lines = ((λ h. lines_asked (has.lines.0 h)), (λ all. has.lines.1 (all_lines all)))

  -- ---- comments

  abbrev ss : List Spanned
  ss = spans_of ms

  abbrev covers : List Bool
  covers = covers_from None (stops ss) (paired_of ms)

  abbrev new : List Spanned
  new = new_from None ms

  spans : ss ≡ map spanned (units e.lines)
  spans = met_spans e text spells ms is

  many_stops : length (stops ss) ≡ length ss
  many_stops = length-map ss (λ (u : Spanned). u.stop)

  many_paired : length (paired_of ms) ≡ length (stops ss)
  many_paired = length-map ms (λ (m : Met). m.paired) ∙ sym (length-map ms (λ (m : Met). m.lined.unit)) ∙ sym many_stops

  -- no text stands more often among these than in what edits write
  abbrev AreFew : List (List ℕ) → Type 0
  AreFew ts = (t : List ℕ) → times t ts ≤ times t (flat_map (λ (w : Written). plain w.texts.items) asked.written.items)

  few_is : AreFew (plain added.texts.items) ↔ AreFew (map (text_at text) new)
  few_is = subst (λ ts. AreFew (plain added.texts.items) ↔ AreFew ts) has.texts ((λ h. h), (λ h. h))

  no_comments : HaveValues profile cs → AddsNoComments asked added ↔ NoCommentsAdded cs e ps
  no_comments values =
      let n : ℕ = length ss in
      let ws = asked.written.items in
      let held = λ (k : ℕ) (low : k < n). covered (stops ss) (paired_of ms) many_paired k (omega (arith, low, many_stops)) in
      let so_many : length covers ≡ n = as_many_covers None (stops ss) (paired_of ms) many_paired ∙ many_stops in
      let found_is = new_is None ms in (
        (λ h. none_added cs e text ps spells ss spans n refl (paired_of ms) (λ k low. pairs k) covers held so_many ws (asks.written values) new found_is (has.allowed.0 h.0) (few_is.0 h.1)),
        (λ all. (
          has.allowed.1 (all_asked cs e text ps spells ss spans n refl (paired_of ms) (λ k low. pairs k) covers held so_many ws (asks.written values) new found_is all),
          few_is.1 (all_once cs e text ps spells ss spans n refl (paired_of ms) (λ k low. pairs k) covers held so_many ws (asks.written values) new found_is all),
        )),
      )

pub no_lines_is_told : (profile : Profile) (cs : List Change) (asked : Asked) (e : Doc) (text : List ℕ) (ps : List (ℕ × ℕ)) (ms : List Met) (added : Added)
    → Asks profile cs asked → Spells e text → lined e.lines ≡ lined_of ms → HasAdded asked text ms added
    → ((k : ℕ) → IsSet (paired_of ms) k ↔ IsSecond ps k)
    → IsTrue added.lines ↔ NoLinesAdded cs e ps
no_lines_is_told profile cs asked e text ps ms added asks spells is has pairs =
    no_lines profile cs asked e text ps ms added asks spells is has pairs

pub no_comments_is_told : (profile : Profile) (cs : List Change) (asked : Asked) (e : Doc) (text : List ℕ) (ps : List (ℕ × ℕ)) (ms : List Met) (added : Added)
    → Asks profile cs asked → Spells e text → lined e.lines ≡ lined_of ms → HasAdded asked text ms added
    → ((k : ℕ) → IsSet (paired_of ms) k ↔ IsSecond ps k)
    → HaveValues profile cs → AddsNoComments asked added ↔ NoCommentsAdded cs e ps
no_comments_is_told profile cs asked e text ps ms added asks spells is has pairs values =
    no_comments profile cs asked e text ps ms added asks spells is has pairs values
