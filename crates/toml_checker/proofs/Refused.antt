-- A text that was refused is no document, and one whose names were found is one.
use Rattle.std.proofs.Common.{inl, inr, ◌≤◌, ℕ, List, length, sym, subst, arith}
use Rattle.std.proofs.lemmas.Str.{IsUtf8-from_is_utf8}
use Rattle.toml_text.specs.Limit.{IsText, max_len}
use Rattle.toml_text.specs.Source.{IsFaultOf}
use Rattle.toml_text.specs.declared.fault.TextFault.{TextFault}
use Rattle.toml_text.specs.declared.fault.TextFault.TheVariants.{NotUtf8, TooLong}
use Rattle.toml_tree.specs.HandedOut.{tree_of}
use Rattle.toml_tree.specs.Spells.{Spells}
use Rattle.toml_tree.specs.Tree.{Doc}
use Rattle.toml_tree.specs.declared.profile.Profile.{Profile}
use Rattle.toml_names.specs.declared.line_names.LineNames.{LineNames}
use Rattle.toml_names.specs.model.Documents.{IsDocumentIn}
use Rattle.toml_names.specs.reader.Names.{AreGood}
use Rattle.toml_names.specs.reader.Texts.{GoodText}
use Rattle.toml_names.proofs.Proved.{taken_are_good}
use Rattle.toml_edits.specs.Edits.{Change}
use Rattle.toml_checker.specs.declared.verdict.Reason.{Reason}
use Rattle.toml_checker.specs.declared.verdict.Verdict.TheVariants.{No}
use Rattle.toml_checker.specs.Demands.{IsVerdict}
use Rattle.toml_checker.specs.Judging.{IsRefusal}
use Rattle.toml_checker.proofs.Asked.{none_below}
use Rattle.toml_checker.proofs.OfDocuments.{after_refused}
use Rattle.toml_checker.specs.Walking.{NamesAll}

pub no_text : (profile : Profile) (text : List ℕ) (fault : TextFault) → IsFaultOf text fault → ¬ IsDocumentIn profile text
no_text profile text (NotUtf8 at) h = λ document. h.0 (IsUtf8-from_is_utf8 text document.0.utf8)
no_text profile text TooLong h = λ document. let fits : length text ≤ max_len = document.0.fits in absurd (omega (arith, h.1))

-- a text whose lines are good
pub good_text : (profile : Profile) (text : List ℕ) → IsText text → GoodText profile text → IsDocumentIn profile text
good_text profile text is h = (is, tree_of text h.lines, h.are.spelled.0, h.good, h.are.spelled.1)

module _ (profile : Profile) (text : List ℕ) (names : LineNames) (found : NamesAll profile text names) where
  -- the tree of the text
  abbrev pub tree : Doc
  tree = tree_of text found.lines

  pub spelled : Spells tree text
  spelled = found.are.spelled.0

  pub good : AreGood tree.lines
  good = taken_are_good names found.lines found.stand

  pub is_document : IsDocumentIn profile text
  is_document = (found.fits, tree, spelled, good, found.are.spelled.1)

-- what is said of a first text where the second one is none
pub refusal_told : (profile : Profile) (before after : List ℕ) (cs : List Change) (ps : List (ℕ × ℕ)) (r : Reason) → IsRefusal profile before r → ¬ IsDocumentIn profile after → IsVerdict profile before cs after ps (No r)
refusal_told profile before after cs ps r (inl (is, none)) other = subst (λ (q : Reason). IsVerdict profile before cs after ps (No q)) (sym is) (none, none_below profile before after cs ps)
refusal_told profile before after cs ps r (inr (is, old)) other = subst (λ (q : Reason). IsVerdict profile before cs after ps (No q)) (sym is) (after_refused profile before after cs ps old other)
