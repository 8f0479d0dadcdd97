-- That what lists of plain edits write is certified.
use Rattle.std.proofs.Common.{◌≡◌, inl, ℕ, List, [], ◌∷◌, refl, sym, ap, ◌∙◌, subst}
use Rattle.toml_text.specs.Forms.{IsNewline}
use Rattle.toml_text.specs.Limit.{IsText}
use Rattle.toml_tree.specs.Spells.{mark_of}
use Rattle.toml_tree.specs.Tree.{Piece}
use Rattle.toml_tree.specs.declared.profile.Profile.{Profile}
use Rattle.toml_names.specs.model.Data.{Kinds}
use Rattle.toml_edits.specs.Edits.{Change}
use Rattle.toml_edits.specs.Lists.{Lead}
use Rattle.toml_units.specs.Units.{units}
use Rattle.toml_checker.specs.Comments.{NoCommentsAdded}
use Rattle.toml_checker.specs.Demands.{Certified}
use Rattle.toml_checker.specs.Kept.{AllKept}
use Rattle.toml_checker.specs.Lines.{NoLinesAdded}
use Rattle.toml_checker.specs.Pairs.{PairsFit}
use Rattle.toml_editor.specs.CertifiedLists.{AreOuterPartners, PartnersCertify, OuterPartnersCertify, ArePlain, PlainListIsCertified}
use Rattle.toml_editor.specs.Steps.{IsGoodText, AreWritten}
use Rattle.toml_editor.proofs.written.OuterPairs.{outer_of, outer_pairs_fit, outer_kept, outer_lines, outer_comments}
use Rattle.toml_editor.proofs.written.Steps.{good_texts_are_documents, plain_is_written, plain_step, plain_steps}
use Rattle.toml_editor.proofs.written.UnitsListed.{list_is_carried}
use Rattle.toml_working.specs.Manners.{Manner}
use Rattle.toml_editor.specs.EditedLines.{manner_after}
use Rattle.toml_editor.proofs.Mannered.{keeps_newline}
use Rattle.toml_editor.specs.CarriedLists.{BlankNeedsNewline}

-- the demands that are not of pairs
module _ (cs : List Change) (profile : Profile) (manner : Manner) (before after : List ℕ) (old now : Kinds) (newline : IsNewline manner.newline)
    (within : IsText before) (still : IsText after) (good : IsGoodText profile before old)
    (lead : Lead profile cs old now) (written : AreWritten profile cs manner before after) (new : IsGoodText profile after now) where
  same_text : (cs : List Change) → AreWritten profile cs manner before after → cs ≡ [] → before ≡ after
  same_text [] is none = is
  same_text (c ∷ cs) is none = cc

  marks : mark_of before ≡ mark_of after
  marks =
      let made = plain_steps profile cs manner before after old now newline good lead written in
      ap (λ (x : Piece). x.text) (sym good.spelled.0.mark) ∙ ap (λ (x : Piece). x.text) (sym made.1)
      ∙ ap (λ (x : Piece). x.text) made.0.spelled.0.mark

  certified_by : (ps : List (ℕ × ℕ)) → PairsFit cs good.tree new.tree ps → AllKept cs good.tree ps → NoLinesAdded cs new.tree ps
      → NoCommentsAdded cs new.tree ps → Certified profile before cs after ps
  certified_by ps fit kept lines comments = record {
    old = (good_texts_are_documents profile before within).0 (old, good);
    new = (good_texts_are_documents profile after still).0 (now, new);
    defined = (good.tree, good.spelled.0, old, good.facts, (now, lead));
    facts = (good.tree, good.spelled.0, old, good.facts, (new.tree, new.spelled.0, now, new.facts, lead));
    pairs = (good.tree, good.spelled.0, (new.tree, new.spelled.0, fit));
    kept = (good.tree, good.spelled.0, kept);
    lines = (new.tree, new.spelled.0, lines);
    comments = (new.tree, new.spelled.0, comments);
    frame = (marks, same_text cs written);
  }

pub partners_certify : PartnersCertify
partners_certify cs profile manner before after old now newline within still good lead written new ps are =
    certified_by cs profile manner before after old now newline within still good lead written new ps are.fit
    (λ i here. inl ((are.named i).1 here)) are.lines are.comments

pub outer_partners_certify : OuterPartnersCertify
outer_partners_certify cs profile manner before after old now newline within still good lead written new os outer =
    certified_by cs profile manner before after old now newline within still good lead written new os
    (outer_pairs_fit cs good.tree new.tree before after good.spelled.0 new.spelled.0 new.good.0 outer.all outer.are os outer.outer)
    (outer_kept cs good.tree new.tree before after good.spelled.0 new.spelled.0 new.good.0 outer.all outer.are os outer.outer)
    (outer_lines cs good.tree new.tree before after good.spelled.0 new.spelled.0 new.good.0 outer.all outer.are os outer.outer)
    (outer_comments cs good.tree new.tree before after good.spelled.0 new.spelled.0 new.good.0 outer.all outer.are os outer.outer)

-- ---- the text

list_is_written : (cs : List Change) (profile : Profile) (manner : Manner) (before : List ℕ) (old now : Kinds) → IsNewline manner.newline
    → IsGoodText profile before old → Lead profile cs old now → ArePlain profile cs manner before
    → (after : List ℕ) × AreWritten profile cs manner before after
list_is_written [] profile manner before old now newline good lead plain = (before, refl)
list_is_written (c ∷ cs) profile manner before old now newline good (none, mid, is_after, lead) plain =
    let first = plain_is_written profile c manner before old mid good is_after (plain.0 good.tree good.spelled) in
    let step = plain_step profile c manner before first.0 old mid newline good none is_after first.1 in
    let others = list_is_written cs profile (manner_after c manner first.1.0.lines) first.0 mid now
    (subst IsNewline (sym (keeps_newline c manner first.1.0.lines)) newline) step.0 lead (plain.1 first.0 first.1) in
    (others.0, (first.0, first.1, others.1))

-- what they write is a good text, and has outer partners with the first one
pub outer_partners : (cs : List Change) (profile : Profile) (manner : Manner) (before after : List ℕ) (old now : Kinds) → IsNewline manner.newline
    → (good : IsGoodText profile before old) → BlankNeedsNewline manner before → Lead profile cs old now → AreWritten profile cs manner before after
    → (new : IsGoodText profile after now) × (os : List (ℕ × ℕ)) × AreOuterPartners cs good.tree new.tree os
outer_partners cs profile manner before after old now newline good told lead written =
    let new = (plain_steps profile cs manner before after old now newline good lead written).0 in
    let all = list_is_carried cs profile manner before after old now newline good told lead written new in
    let outer = outer_of cs (units good.tree.lines) all.0 in
    (new, outer.0, record { all = all.0; are = all.1; outer = outer.1 })

pub plain_list_is_certified : PlainListIsCertified
plain_list_is_certified cs profile manner before old now newline within good told lead plain =
    let text = list_is_written cs profile manner before old now newline good lead plain in
    let (new, pairs, partners) = outer_partners cs profile manner before text.0 old now newline good told lead text.1 in (
      text.0,
      text.1,
      record {
        new = new;
        pairs = pairs;
        partners = partners;
        verdict = λ still os are.
            outer_partners_certify cs profile manner before text.0 old now newline within still good lead text.1 new os are;
      },
    )
