-- The demands on the pairs, the units and the texts, by what is said of the units.
use Rattle.std.proofs.Common.{◌≡◌, ℕ, Bool, true, false, not, List, refl, arith}
use Rattle.std.specs.Prelude.{◌↔◌, IsTrue}
use Rattle.toml_tree.specs.declared.profile.Profile.{Profile}
use Rattle.toml_names.specs.model.Documents.{IsDocumentIn}
use Rattle.toml_edits.specs.Edits.{Change}
use Rattle.toml_checker.specs.declared.verdict.Reason.TheVariants.{BeforeRefused, AfterRefused, BadPair, Lost, Unasked, NewComment, NotTheSame}
use Rattle.toml_checker.specs.declared.verdict.Verdict.TheVariants.{No}
use Rattle.toml_checker.specs.declared.walk.Said.{Said}
use Rattle.toml_checker.specs.Comments.{NoCommentsAdded}
use Rattle.toml_checker.specs.Demands.{Certified, Demand, IsVerdict}
use Rattle.toml_checker.specs.Judging.{HoldBelow}
use Rattle.toml_checker.specs.Kept.{AllKept}
use Rattle.toml_checker.specs.Lines.{NoLinesAdded}
use Rattle.toml_checker.specs.Pairs.{PairsFit}
use Rattle.toml_checker.specs.Walking.{Says, SaysOf}
use Rattle.toml_checker.proofs.Asked.{all_hold, fails, of_tree, of_trees, passes}
use Rattle.toml_checker.proofs.OfDocuments.{values_hold}

pub is_off : (b : Bool) → not b ≡ true → b ≡ false
is_off true h = cc
is_off false h = refl

pub is_on : (b : Bool) → not b ≡ false → b ≡ true
is_on true h = refl
is_on false h = cc

module _ (profile : Profile) (before after : List ℕ) (cs : List Change) (ps : List (ℕ × ℕ)) (said : Said) (so_far : HoldBelow profile 4 before cs after ps) (says : SaysOf profile before cs after ps said) where
  old : IsDocumentIn profile before
  old = so_far BeforeRefused (omega arith)

  new : IsDocumentIn profile after
  new = so_far AfterRefused (omega arith)

  s : Says profile cs ps old.1 new.1 said
  s = says old new

  pairs : IsTrue said.fits ↔ Demand profile BadPair before cs after ps
  pairs = of_trees (λ d e. PairsFit cs d e ps) old.1 new.1 before after said.fits old.2 new.2 s.pairs

  pub no_pairs : said.fits ≡ false → IsVerdict profile before cs after ps (No BadPair)
  no_pairs no_ = fails profile BadPair before after cs ps said.fits so_far pairs no_

  module _ (fits : said.fits ≡ true) where
    so_pairs : HoldBelow profile 5 before cs after ps
    so_pairs = passes profile BadPair before after cs ps said.fits so_far pairs fits

    kept : IsTrue said.kept ↔ Demand profile Lost before cs after ps
    kept = of_tree (λ d. AllKept cs d ps) old.1 before said.kept old.2 (s.kept fits)

    pub no_kept : said.kept ≡ false → IsVerdict profile before cs after ps (No Lost)
    no_kept no_ = fails profile Lost before after cs ps said.kept so_pairs kept no_

    module _ (keeps : said.kept ≡ true) where
      so_kept : HoldBelow profile 6 before cs after ps
      so_kept = passes profile Lost before after cs ps said.kept so_pairs kept keeps

      lines : IsTrue said.lines ↔ Demand profile Unasked before cs after ps
      lines = of_tree (λ e. NoLinesAdded cs e ps) new.1 after said.lines new.2 (s.lines fits)

      pub no_lines : said.lines ≡ false → IsVerdict profile before cs after ps (No Unasked)
      no_lines no_ = fails profile Unasked before after cs ps said.lines so_kept lines no_

      module _ (asked : said.lines ≡ true) where
        so_lines : HoldBelow profile 7 before cs after ps
        so_lines = passes profile Unasked before after cs ps said.lines so_kept lines asked

        comments : IsTrue said.comments ↔ Demand profile NewComment before cs after ps
        comments = of_tree (λ e. NoCommentsAdded cs e ps) new.1 after said.comments new.2 (s.comments fits (values_hold profile before after cs ps so_far))

        pub no_comments : said.comments ≡ false → IsVerdict profile before cs after ps (No NewComment)
        no_comments no_ = fails profile NewComment before after cs ps said.comments so_lines comments no_

        module _ (written : said.comments ≡ true) (frame : Bool) (told : IsTrue frame ↔ Demand profile NotTheSame before cs after ps) where
          so_comments : HoldBelow profile 8 before cs after ps
          so_comments = passes profile NewComment before after cs ps said.comments so_lines comments written

          pub no_frame : frame ≡ false → IsVerdict profile before cs after ps (No NotTheSame)
          no_frame no_ = fails profile NotTheSame before after cs ps frame so_comments told no_

          pub all_demands : frame ≡ true → Certified profile before cs after ps
          all_demands is = all_hold profile before after cs ps (passes profile NotTheSame before after cs ps frame so_comments told is)
