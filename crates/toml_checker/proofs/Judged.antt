-- The demands on two documents and their data, by the names of both.
use Rattle.std.proofs.Common.{◌≡◌, ℕ, Bool, true, false, true≢false, List, Option, Some, None, sym, ◌∙◌}
use Rattle.std.specs.Prelude.{◌↔◌, IsTrue}
use Rattle.toml_tree.specs.Tree.{Doc, Line}
use Rattle.toml_tree.specs.declared.profile.Profile.{Profile}
use Rattle.toml_names.specs.declared.line_names.LineNames.{LineNames}
use Rattle.toml_names.specs.model.Data.{IsDataOf, fact_at}
use Rattle.toml_names.specs.model.Documents.{IsDocumentIn}
use Rattle.toml_names.specs.mentions.Mentions.{named}
use Rattle.toml_names.specs.reader.LineNames.{StandFor}
use Rattle.toml_edits.specs.Edits.{Change}
use Rattle.toml_checker.specs.declared.facts.Made.{Made}
use Rattle.toml_checker.specs.declared.verdict.Reason.TheVariants.{AfterRefused, EditsRefused, OtherData}
use Rattle.toml_checker.specs.declared.verdict.Verdict.TheVariants.{No}
use Rattle.toml_checker.specs.After.{GivesMade, IsMadeOf, Makes, TellsMade, made_of}
use Rattle.toml_checker.specs.Demands.{IsVerdict}
use Rattle.toml_checker.specs.Judging.{HoldBelow}
use Rattle.toml_checker.specs.Walking.{NamesAll}
use Rattle.toml_checker.proofs.OfDocuments.{after_refused, data_hold, edits_refused, gives_made, has_data, other_data}
use Rattle.toml_checker.proofs.Refused.{good, is_document, spelled, tree}

pub no_after : (profile : Profile) (before after : List ℕ) (cs : List Change) (ps : List (ℕ × ℕ)) (names : LineNames) → NamesAll profile before names → ¬ IsDocumentIn profile after → IsVerdict profile before cs after ps (No AfterRefused)
no_after profile before after cs ps names a none = after_refused profile before after cs ps (is_document profile before names a) none

module _ (profile : Profile) (before after : List ℕ) (cs : List Change) (ps : List (ℕ × ℕ)) (names others : LineNames) (a : NamesAll profile before names) (b : NamesAll profile after others) where
  abbrev d : Doc
  d = tree profile before names a

  abbrev e : Doc
  e = tree profile after others b

  gives : (found : Option Made) → Makes profile names cs found → GivesMade profile before cs found
  gives found h = gives_made profile before d (fact_at (named d.lines)) cs names found a.stand (has_data before d (spelled profile before names a) (good profile before names a)) h

  pub no_edits : Makes profile names cs None → IsVerdict profile before cs after ps (No EditsRefused)
  no_edits h = edits_refused profile before after cs ps (is_document profile before names a) (is_document profile after others b) (gives None h)

  module _ (made : Made) (makes : Makes profile names cs (Some made)) where
    is : IsMadeOf profile before cs made
    is = gives (Some made) makes

    pub stands : (lines : List Line) × StandFor made.names lines
    stands = (is.tree.lines, is.taken)

    module _ (same : Bool) (tells : TellsMade others made same) where
      told : IsTrue same ↔ IsDataOf (named e.lines) (made_of made is.old)
      told = tells e.lines is.tree.lines b.stand is.taken is.old is.facts

      pub no_data : same ≡ false → IsVerdict profile before cs after ps (No OtherData)
      no_data off = other_data profile before after e cs ps made (is_document profile before names a) (is_document profile after others b) is (spelled profile after others b) (λ are. true≢false (sym (told.1 are) ∙ off))

      pub so_far : same ≡ true → HoldBelow profile 4 before cs after ps
      so_far on = data_hold profile before after e cs ps made (is_document profile before names a) (is_document profile after others b) is (spelled profile after others b) (told.0 on)
