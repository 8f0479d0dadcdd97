-- What was found of two texts, when both were walked through.
use Rattle.std.proofs.Common.{◌≡◌, ◌++◌, ℕ, Bool, true, List, length, Option, Some, None, sym, ap, subst, ◌∙◌, arith}
use Rattle.std.specs.Prelude.{◌↔◌, IsTrue}
use Rattle.std.proofs.lemmas.List.{length-map}
use Rattle.toml_text.specs.Limit.{IsText}
use Rattle.toml_tree.specs.HandedOut.{tree_of}
use Rattle.toml_tree.specs.Tree.{Doc}
use Rattle.toml_tree.specs.declared.profile.Profile.{Profile}
use Rattle.toml_tree.proofs.Proved.{one_tree}
use Rattle.toml_names.specs.declared.line_names.LineNames.{LineNames}
use Rattle.toml_names.specs.model.Documents.{IsDocumentIn}
use Rattle.toml_edits.specs.Edits.{Change}
use Rattle.toml_units.specs.Cursors.{Ends}
use Rattle.toml_units.specs.Lined.{LinedUnit, lined}
use Rattle.toml_units.specs.Plain.{spanned}
use Rattle.toml_units.specs.Units.{units}
use Rattle.toml_units.proofs.Proved.{lined_are_units, plain_is_units, units_are_few}
use Rattle.toml_checker.specs.declared.walk.Found.{Found}
use Rattle.toml_checker.specs.declared.walk.Walk.{Walk}
use Rattle.toml_checker.specs.Added.{HasAdded}
use Rattle.toml_checker.specs.Comments.{NoCommentsAdded}
use Rattle.toml_checker.specs.Kept.{AllKept}
use Rattle.toml_checker.specs.Lines.{NoLinesAdded}
use Rattle.toml_checker.specs.Marks.{IsSet}
use Rattle.toml_checker.specs.Pairs.{IsFirst, IsSecond, PairsFit}
use Rattle.toml_checker.specs.Traces.{Met, lined_of, paired_of}
use Rattle.toml_checker.specs.Walking.{AllFitIn, AreMarked, FindsNames, Finishes, IsFew, IsFound, MayBeAll, PairsTold, Says}
use Rattle.toml_checker.specs.WrittenComments.{HaveValues}
use Rattle.toml_checker.proofs.AddedTraces.{no_comments_is_told, no_lines_is_told}
use Rattle.toml_checker.proofs.KeptTraces.{all_kept_is_told}
use Rattle.toml_checker.proofs.LinedNewlines.{met_spans}
use Rattle.toml_checker.proofs.PairTraces.{pairs_are_told}
use Rattle.toml_checker.proofs.Traced.{marks_still}

names_found : (profile : Profile) (text : List ℕ) (past : List LinedUnit) (names : Option LineNames) → IsText text → Ends profile text past names → FindsNames profile text names
names_found profile text past None is h = h
names_found profile text past (Some n) is h = record { fits = is; lines = h.lines; are = h.are; stand = h.names_are }

-- all units of a document were walked past
pub all_units_of : (profile : Profile) (text : List ℕ) (past : List LinedUnit) (names : Option LineNames) → Ends profile text past names → (doc : IsDocumentIn profile text) → lined doc.1.lines ≡ past
all_units_of profile text past None h doc = absurd (h doc)
all_units_of profile text past (Some n) h doc = ap (λ (d : Doc). lined d.lines) (one_tree doc.1 (tree_of text h.lines) text doc.2 h.are.spelled.0) ∙ h.units

pub few_of : (profile : Profile) (text : List ℕ) (doc : IsDocumentIn profile text) → IsFew (lined doc.1.lines)
few_of profile text doc =
    let d = doc.1 in
    let a = length-map (lined d.lines) (λ (x : LinedUnit). x.unit) in
    let b = ap length (lined_are_units d.lines ∙ plain_is_units d text doc.2) in
    let e = length-map (units d.lines) spanned in
    let few = units_are_few d text doc.2 doc.0 in
    omega (arith, a, b, e, few)

module _ (profile : Profile) (cs : List Change) (ps : List (ℕ × ℕ)) (start now : Walk) (fits : Bool) (t : PairsTold profile cs start ps now fits) (found : Found) (f : Finishes profile cs now t.ms t.ns fits found) where
  abbrev before : List ℕ
  before = start.one.text.now

  abbrev after : List ℕ
  after = start.other.text.now

  abbrev ms : List Met
  ms = t.ms ++ f.one

  abbrev ns : List Met
  ns = t.ns ++ f.other

  names : Ends profile before (lined_of ms) found.names
  names = subst (λ x. Ends profile x.now (lined_of ms) found.names) t.first_text f.names

  others : Ends profile after (lined_of ns) found.others
  others = subst (λ x. Ends profile x.now (lined_of ns) found.others) t.second_text f.others

  added : HasAdded now.asked after ns f.added
  added = subst (λ x. HasAdded now.asked x.now ns f.added) t.second_text f.has_added

  module _ (old : IsDocumentIn profile before) (new : IsDocumentIn profile after) where
    abbrev d : Doc
    d = old.1

    abbrev e : Doc
    e = new.1

    first : lined d.lines ≡ lined_of ms
    first = all_units_of profile before (lined_of ms) found.names names old

    second : lined e.lines ≡ lined_of ns
    second = all_units_of profile after (lined_of ns) found.others others new

    may : MayBeAll now t.ms t.ns (lined_of ms) (lined_of ns)
    may = f.back (subst IsFew first (few_of profile before old)) (subst IsFew second (few_of profile after new))

    pairs : IsTrue found.said.fits ↔ PairsFit cs d e ps
    pairs =
        let told = t.told (lined_of ms) (lined_of ns) may in
        let same = pairs_are_told cs d e before after ps old.2 new.2 in
        let to : AllFitIn cs before (lined_of ms) after (lined_of ns) ps → PairsFit cs d e ps = λ h. same.0 (subst (λ xs. AllFitIn cs before xs after (lined e.lines) ps) (sym first) (subst (λ ys. AllFitIn cs before (lined_of ms) after ys ps) (sym second) h)) in
        let from : PairsFit cs d e ps → AllFitIn cs before (lined_of ms) after (lined_of ns) ps = λ h. subst (λ xs. AllFitIn cs before xs after (lined_of ns) ps) first (subst (λ ys. AllFitIn cs before (lined d.lines) after ys ps) second (same.1 h)) in
        ((λ y. to (told.0 (sym f.fits_is ∙ y))), (λ h. f.fits_is ∙ told.1 (from h)))

    module _ (yes : found.said.fits ≡ true) where
      marked : AreMarked ps t.ms t.ns
      marked = t.marked (lined_of ms) (lined_of ns) may (sym f.fits_is ∙ yes)

      marks : (i : ℕ) → IsSet (paired_of ms) i ↔ IsFirst ps i
      marks = marks_still (IsFirst ps) t.ms f.one f.one_unpaired marked.first

      other_marks : (k : ℕ) → IsSet (paired_of ns) k ↔ IsSecond ps k
      other_marks = marks_still (IsSecond ps) t.ns f.other f.other_unpaired marked.second

      kept : IsTrue found.said.kept ↔ AllKept cs d ps
      kept =
          let h = all_kept_is_told cs d before ps ms old.2 (met_spans d before old.2 ms first) marks in
          ((λ y. h.0 (sym f.kept ∙ y)), (λ k. f.kept ∙ h.1 k))

      lines : IsTrue found.said.lines ↔ NoLinesAdded cs e ps
      lines =
          let h = no_lines_is_told profile cs now.asked e after ps ns f.added t.on.asks new.2 second added other_marks in
          ((λ y. h.0 (sym f.lines ∙ y)), (λ k. f.lines ∙ h.1 k))

      comments : HaveValues profile cs → IsTrue found.said.comments ↔ NoCommentsAdded cs e ps
      comments values =
          let h = no_comments_is_told profile cs now.asked e after ps ns f.added t.on.asks new.2 second added other_marks values in
          ((λ y. h.0 (f.comments.0 y)), (λ k. f.comments.1 (h.1 k)))

    says : Says profile cs ps d e found.said
    says = record { pairs = pairs; kept = kept; lines = lines; comments = comments }

  pub is_found : IsText before → IsText after → IsFound profile before cs after ps found
  is_found is also = record {
    first = names_found profile before (lined_of ms) found.names is names;
    second = names_found profile after (lined_of ns) found.others also others;
    says = says;
  }
