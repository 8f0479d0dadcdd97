-- What the judge refuses is not made of plain edits.
use Rattle.std.proofs.Common.{ℕ, ◌≤◌, ◌∙◌, List, length, subst}
use Rattle.std.specs.Prelude.{string_bytes}
use Rattle.std.specs.declared.string.String.{String}
use Rattle.std.proofs.lemmas.Str.{IsUtf8-string_bytes, is_utf8-from_IsUtf8}
use Rattle.toml_text.specs.Limit.{IsText, max_len}
use Rattle.toml_tree.specs.Tree.{Doc}
use Rattle.toml_tree.proofs.Proved.{one_tree}
use Rattle.toml_tree.specs.declared.profile.Profile.{Profile}
use Rattle.toml_names.specs.mentions.Mentions.{named}
use Rattle.toml_names.specs.model.Data.{IsDataOf, Kinds}
use Rattle.toml_names.specs.model.Documents.{IsDocumentIn}
use Rattle.toml_edits.specs.Edits.{Change}
use Rattle.toml_edits.specs.Lists.{Lead}
use Rattle.toml_checker.specs.declared.verdict.Reason.{Reason}
use Rattle.toml_checker.specs.Documents.{OfTree}
use Rattle.toml_checker.specs.Findings.{IsCertificate, IsFirstUnmet}
use Rattle.toml_checker.proofs.Proved.{found_is_met}
use Rattle.toml_editor.specs.CertifiedLists.{ArePlain}
use Rattle.toml_editor.specs.PlainTexts.{IsNoPlainList, WritesPlain}
use Rattle.toml_editor.specs.Steps.{AreWritten, IsGoodText}
use Rattle.toml_layout.specs.declared.layout.Layout.{Layout}
use Rattle.toml_working.specs.Manners.{manner_of}
use Rattle.toml_editor.proofs.SourceKept.{text_ends}
use Rattle.toml_editor.proofs.written.Certify.{outer_partners, outer_partners_certify}
use Rattle.toml_editor.proofs.written.Elsewhere.{style_is_newline}
use Rattle.toml_editor.proofs.written.OuterPairs.{outer_are_named}

-- what is made is a text, within the limit
pub within_limit : {Z : Type 0} (s : String Z) → length (string_bytes s) ≤ max_len → IsText (string_bytes s)
within_limit s fits = record { utf8 = is_utf8-from_IsUtf8 (string_bytes s) (IsUtf8-string_bytes s); fits = fits }

module _ (layout : Layout) (profile : Profile) (before after : List ℕ) (cs : List Change) (document : IsDocumentIn profile before) (within : IsText after)
    (written : WritesPlain layout profile before cs after) where
  abbrev d : Doc
  d = document.1

  of_tree : (P : Doc → Type 0) → OfTree before P → P d
  of_tree P (e, spelled, holds) = subst P (one_tree e d before spelled document.2) holds

  -- what a list of plain edits writes has a certificate: the pairs of its outer partners
  has_certificate : (old now : Kinds) → IsDataOf (named d.lines) old → Lead profile cs old now → ArePlain profile cs (manner_of layout d.lines) before
      → (ps : List (ℕ × ℕ)) × IsCertificate profile before cs after ps
  has_certificate old now facts lead plain =
      let good : IsGoodText profile before old = record { tree = d; spelled = (document.2, document.4); good = document.3; facts = facts } in
      let newline = style_is_newline d.lines document.2.lines.forms in
      let edits : AreWritten profile cs (manner_of layout d.lines) before after =
      of_tree (λ (e : Doc). ArePlain profile cs (manner_of layout e.lines) before → AreWritten profile cs (manner_of layout e.lines) before after) written plain in
      let (new, os, partners) = outer_partners cs profile (manner_of layout d.lines) before after old now newline good (λ may. text_ends d before document.2 ∙ may) lead edits in (
        os,
        record {
          certified = outer_partners_certify cs profile (manner_of layout d.lines) before after old now newline document.0 within good lead edits new os partners;
          outermost = (d, document.2, outer_are_named cs d new.tree os partners);
        },
      )

  -- so of nothing that they write a demand is unmet
  pub no_is_not_plain : (reason : Reason) → IsFirstUnmet profile before cs after reason → IsNoPlainList layout profile before cs
  no_is_not_plain reason unmet = (
    d,
    document.2,
    (λ old now facts lead plain.
        let found = has_certificate old now facts lead plain in
        found_is_met profile before after cs found.0 reason found.1 unmet),
  )
