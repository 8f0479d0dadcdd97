-- The text that is written of the working tree, once plain edits are made on it, is the one that they write.
use Rattle.std.proofs.Common.{◌≡◌, ℕ, List, [], ◌∷◌, ◌++◌, sym, ap, ◌∙◌, subst}
use Rattle.toml_text.specs.Forms.{IsNewline}
use Rattle.toml_text.specs.Source.{text_of}
use Rattle.toml_tree.specs.Profiles.{IsOfProfile, SpellsIn}
use Rattle.toml_tree.specs.Spells.{Spells, joined, lines_parts}
use Rattle.toml_tree.specs.Tree.{Piece, Doc}
use Rattle.toml_tree.specs.declared.profile.Profile.{Profile}
use Rattle.toml_tree.proofs.Proved.{one_tree, text_is_spelled}
use Rattle.toml_names.specs.mentions.Mentions.{named}
use Rattle.toml_names.specs.model.Data.{IsDataOf, Kinds}
use Rattle.toml_names.specs.model.Documents.{IsDocumentIn}
use Rattle.toml_names.specs.reader.Names.{AreGood}
use Rattle.toml_edits.specs.Edits.{Change}
use Rattle.toml_edits.specs.Lists.{Lead}
use Rattle.toml_layout.specs.declared.texts.Texts.{Texts}
use Rattle.toml_working.specs.declared.working.Tree.{Tree}
use Rattle.toml_editor.specs.CertifiedLists.{ArePlain}
use Rattle.toml_editor.specs.LastTexts.{ChangesLines, IsOneChange, WritesLast, standing_text}
use Rattle.toml_editor.specs.Exact.{FollowAll, HoldsLast, IsAt, MakesAll, ShowsEdit}
use Rattle.toml_layout.specs.declared.layout.Layout.{Layout}
use Rattle.toml_working.specs.Manners.{Manner, manner_of}
use Rattle.toml_working.specs.Putting.{manner}
use Rattle.toml_editor.specs.PlainTexts.{WritesPlain}
use Rattle.toml_working.specs.Standing.{Read, Standing, standing}
use Rattle.toml_working.specs.Stands.{Stands}
use Rattle.toml_working.specs.Starting.{NoneIsGone}
use Rattle.toml_editor.specs.Steps.{AreWritten}
use Rattle.toml_working.specs.Writing.{WritesOut}
use Rattle.toml_editor.proofs.MakesExact.{lead_parted}
use Rattle.toml_editor.proofs.WrittenOut.{lines_are_written}
use Rattle.toml_editor.proofs.written.Elsewhere.{style_is_newline}
use Rattle.toml_editor.proofs.written.Steps.{plain_steps}

module _ (profile : Profile) (read : Read) (d : Doc) (before : List ℕ) (tree : Tree) (document : IsDocumentIn profile before)
    (spelled : Spells d before) (stands : Stands before read tree.slots.items (standing d.lines)) (texts : text_of tree.texts.source ≡ before)
    (whole : NoneIsGone tree.elements) (layout : Layout) (mannered : manner tree ≡ manner_of layout d.lines) where
  abbrev same : document.1 ≡ d
  same = one_tree document.1 d before document.2 spelled

  -- at first the tree stands for the text
  abbrev at : (old : Kinds) → IsDataOf (named d.lines) old → IsAt profile read tree before old
  at old facts = record {
    good = record {
      tree = d;
      spelled = (spelled, subst (IsOfProfile profile) same document.4);
      good = subst (λ (e : Doc). AreGood e.lines) same document.3;
      facts = facts;
    };
    stands = subst (λ t. Stands t read tree.slots.items (standing d.lines)) (sym texts) stands;
    whole = whole;
    newline = subst (λ (m : Manner). IsNewline m.newline) (sym mannered) (style_is_newline d.lines spelled.lines.forms);
  }

  module _ (cs : List Change) (old now : Kinds) (new : Tree) (out : List ℕ) (facts : IsDataOf (named d.lines) old) (lead : Lead profile cs old now) where
    -- once plain edits are made, the tree stands for the text that they write,
    all_follow : MakesAll profile read cs tree new → ArePlain profile cs (manner_of layout d.lines) before → FollowAll profile read cs tree new before now
    all_follow makes plain = makes before old now (at old facts) lead (subst (λ m. ArePlain profile cs m before) (sym mannered) plain)

    -- and that is what is written of it
    out_is : (makes : MakesAll profile read cs tree new) → WritesOut before d.mark.text new.slots.items out
        → (plain : ArePlain profile cs (manner_of layout d.lines) before) → out ≡ (all_follow makes plain).after
    out_is makes writes plain =
        let first = at old facts in
        let all = all_follow makes plain in
        let last = all.at.good.tree in
        let steps = plain_steps profile cs (manner tree) before all.after old now first.newline first.good lead all.written in
        let tree_is : steps.0.tree ≡ last = one_tree steps.0.tree last all.after steps.0.spelled.0 all.at.good.spelled.0 in
        let mark : d.mark ≡ last.mark = sym steps.1 ∙ ap (λ (e : Doc). e.mark) tree_is in
        let there = subst (λ t. Stands t read new.slots.items (standing last.lines)) (ap (λ (s : Texts). text_of s.source) all.texts ∙ texts) all.at.stands in
        lines_are_written before d.mark.text read new.slots.items last.lines out writes there
        ∙ ap (λ (m : Piece). m.text ++ joined (lines_parts last.lines)) mark ∙ text_is_spelled last all.after all.at.good.spelled.0

    -- where the last edit changes an array or an inline table in a value, or removes a table, and those before it are plain, it is the text of what
    -- that makes of the lines
    pub last_written : (near : Kinds)
        → ((front : List Change) (c : Change) → cs ≡ front ++ c ∷ [] → (mid : Kinds) → Lead profile front old mid
        → (part : Kinds) → Lead profile front near part → ShowsEdit c part mid)
        → HoldsLast profile read near cs tree new → WritesOut before d.mark.text new.slots.items out → WritesLast layout profile before cs out
    last_written near shows makes writes = (d, spelled, by)
      where
        by : (front : List Change) (c : Change) → cs ≡ front ++ c ∷ [] → ArePlain profile front (manner_of layout d.lines) before
            → (between : List ℕ) → AreWritten profile front (manner_of layout d.lines) before between
            → (e : Doc) → SpellsIn profile e between → IsOneChange e.lines c
            → (ts : List Standing) × ChangesLines layout profile c (standing e.lines) ts × (out ≡ e.mark.text ++ standing_text ts)
        by front c is plain between written e spells there =
            let first = at old facts in
            let (mid, led, none, is_after) = lead_parted profile front c old now (subst (λ es. Lead profile es old now) is lead) in
            let as_tree = subst (λ m. AreWritten profile front m before between) (sym mannered) written in
            let (ts, stand, changed) = makes front c is before old mid now first led none is_after (shows front c is mid led)
            (subst (λ m. ArePlain profile front m before) (sym mannered) plain) between as_tree e spells there in
            let steps = plain_steps profile front (manner tree) before between old mid first.newline first.good led as_tree in
            let tree_is : steps.0.tree ≡ e = one_tree steps.0.tree e between steps.0.spelled.0 spells.0 in
            let mark : d.mark ≡ e.mark = sym steps.1 ∙ ap (λ (x : Doc). x.mark) tree_is in (
              ts,
              subst (λ (m : Manner). ChangesLines m.layout profile c (standing e.lines) ts) mannered changed,
              writes read ts (subst (λ t. Stands t read new.slots.items ts) texts stand) ∙ ap (λ (m : Piece). m.text ++ standing_text ts) mark,
            )

    pub plain_written : MakesAll profile read cs tree new → WritesOut before d.mark.text new.slots.items out → WritesPlain layout profile before cs out
    plain_written makes writes = (d, spelled, (λ plain. by plain))
      where
        by : ArePlain profile cs (manner_of layout d.lines) before → AreWritten profile cs (manner_of layout d.lines) before out
        by plain =
            let all = all_follow makes plain in
            subst (AreWritten profile cs (manner_of layout d.lines) before) (sym (out_is makes writes plain))
            (subst (λ m. AreWritten profile cs m before all.after) mannered all.written)
