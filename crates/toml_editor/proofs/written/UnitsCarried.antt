-- What plain edits carry along, from text to text.
use Rattle.std.proofs.Common.{◌≡◌, ◌⊎◌, inl, inr, ℕ, List, [], ◌∷◌, ◌++◌, length, refl, sym, ap, ◌∙◌, subst, Option, Some, None, IfSome, IsSome, map, true≢false, Bool, false, ◌&&◌, ap₂}
use Rattle.toml_tree.specs.Bare.{bare_lines}
use Rattle.toml_tree.specs.Places.{put_doc}
use Rattle.toml_tree.specs.Spells.{Spells, AreLines, joined, lines_parts, mark_of, EachIs}
use Rattle.toml_tree.specs.Tree.{Piece, Line, Doc}
use Rattle.toml_tree.specs.declared.profile.Profile.{Profile}
use Rattle.toml_tree.proofs.Proved.{one_tree, put_doc_spells, put_lines_same}
use Rattle.toml_names.specs.declared.model.address.Step.{Step}
use Rattle.toml_names.specs.declared.model.address.Step.TheVariants.{Name, Index}
use Rattle.toml_names.specs.mentions.Mentions.{named, Kind}
use Rattle.toml_names.specs.model.Addresses.{Address, child, element}
use Rattle.toml_names.specs.model.Data.{Kinds, IsDataOf, fact_at}
use Rattle.toml_names.specs.model.Places.{IsNamed}
use Rattle.toml_edits.specs.Edits.{Change, insert, rename, set, remove, new_section, new_element}
use Rattle.toml_edits.specs.declared.fault.EditFault.TheVariants.{RootNamed, NotAName, AlreadyThere, AddressLength}
use Rattle.toml_units.specs.Units.{inside, TextUnit, units}
use Rattle.toml_checker.specs.Comments.{AreCommentsIn, texts}
use Rattle.toml_names.specs.mentions.Clear.{IsClear}
use Rattle.toml_names.specs.mentions.Rules.{KeepsRules}
use Rattle.toml_names.proofs.Proved.{lines_are_closed, lines_have_data, places_are_not_named}
use Rattle.toml_units.proofs.Proved.{units_are_named}
use Rattle.toml_working.specs.Removing.{remove_lines}
use Rattle.toml_editor.proofs.written.HeaderFormed.{header_forms}
use Rattle.toml_editor.proofs.written.HeaderPut.{IsOneMore}
use Rattle.toml_editor.proofs.written.RemoveKept.{remove_forms}
use Rattle.toml_editor.proofs.written.RemovedEither.{left_clear, remove_good, remove_way}
use Rattle.toml_editor.proofs.written.Pairwise.{has_of_any, from_has}
use Rattle.toml_editor.proofs.written.Way.{Seen, seen}
use Rattle.toml_edits.specs.After.{IsAfter}
use Rattle.toml_edits.specs.Faults.{IsFault}
use Rattle.toml_text.specs.Forms.{IsNewline}
use Rattle.toml_editor.specs.CarriedUnits.{PlainIsCarried}
use Rattle.toml_working.specs.InsertingInTables.{insert_in}
use Rattle.toml_working.specs.Renaming.{rename_lines}
use Rattle.toml_editor.specs.Steps.{IsGoodText}
use Rattle.toml_editor.proofs.written.Fitting.{unnamed, last_step, all_fit}
use Rattle.toml_editor.proofs.written.InsertFormed.{insert_forms}
use Rattle.toml_editor.proofs.written.RenameFormed.{rename_forms}
use Rattle.toml_editor.proofs.written.WayComments.{comments}
use Rattle.toml_working.specs.Setting.{set_lines}
use Rattle.toml_layout.specs.declared.tree.Brackets.TheVariants.{One, Two}
use Rattle.toml_working.specs.Premises.{HasLine, HasTable, HasValue, IsInNoValue}
use Rattle.toml_editor.specs.EditedLines.{IsWritten, with_header}
use Rattle.toml_editor.proofs.written.HeaderFacts.{element_room, section_room}
use Rattle.toml_editor.proofs.written.HeaderLaidOut.{StandsInLayout, element_laid_out, section_laid_out}
use Rattle.toml_editor.proofs.written.SetKept.{set_short}
use Rattle.toml_editor.proofs.written.SetFormed.{set_forms}
use Rattle.toml_editor.proofs.written.WaySet.{set_way}
use Rattle.toml_editor.proofs.written.WayHeaded.{element_way, section_way}
use Rattle.toml_editor.proofs.written.WayPut.{insert_way}
use Rattle.toml_editor.proofs.written.WayRenamed.{rename_way}
use Rattle.toml_working.specs.Manners.{Manner}
use Rattle.std.specs.Prelude.{not}
use Rattle.toml_layout.specs.Holders.{parent_of}
use Rattle.toml_layout.specs.declared.tree.Brackets.{Brackets}
use Rattle.toml_working.specs.HeaderStanding.{blank_standing}
use Rattle.toml_working.specs.Standing.{standing}
use Rattle.toml_editor.proofs.written.TablesStay.{parent_is}
use Rattle.toml_editor.proofs.written.WayWhole.{HasWay, HasWayIf, partners, same_newlines, same_seen, way_weaker}

-- whether the edit puts a blank line in before a header line
abbrev pub puts_blank : Change → Manner → List Line → Bool
puts_blank (new_section p) manner lines = blank_standing (parent_of p) p One manner (standing lines)
puts_blank (new_element p) manner lines = blank_standing (parent_of p) p Two manner (standing lines)
puts_blank _ manner lines = false

-- A way to lines that make the text. Where no blank line is put in, a last line of no bytes stays the last.
pub record HasGone (c : Change) (manner : Manner) (d : Doc) (after : List ℕ) : Type 0 where
  pub comments_in : List (List ℕ)
  pub comments_are : AreCommentsIn c comments_in
  pub edited : List Line
  pub forms : AreLines edited
  pub text : after ≡ d.mark.text ++ joined (lines_parts edited)
  pub way : HasWayIf (puts_blank c manner d.lines ≡ false) (c ∷ []) (comments_in ∷ []) d.lines edited

-- the tree of the text has these lines, but for places
pub lines_again : (c : Change) (profile : Profile) (manner : Manner) (before after : List ℕ) (old now : Kinds) (good : IsGoodText profile before old)
    (new : IsGoodText profile after now) (gone : HasGone c manner good.tree after)
    → bare_lines new.tree.lines ≡ bare_lines gone.edited
lines_again c profile manner before after old now good new gone =
    let edited = gone.edited in
    let mark : good.tree.mark ≡ record { start = 0; text = mark_of before } = good.spelled.0.mark in
    let is_text : mark_of before ++ joined (lines_parts edited) ≡ after =
    sym (gone.text ∙ ap (λ (x : Piece). x.text ++ joined (lines_parts edited)) mark) in
    let same : new.tree ≡ put_doc (mark_of before) edited =
    one_tree new.tree (put_doc (mark_of before) edited) after new.spelled.0
    (subst (Spells (put_doc (mark_of before) edited)) is_text (put_doc_spells before edited gone.forms)) in
    ap (λ (d : Doc). bare_lines d.lines) same ∙ put_lines_same edited (length (mark_of before))

-- so it is always, where none is ever put in
always : (c : Change) (manner : Manner) (ts : List (List ℕ)) (lines edited : List Line) → puts_blank c manner lines ≡ false → HasWay (c ∷ []) (ts ∷ []) lines edited
    → HasWayIf (puts_blank c manner lines ≡ false) (c ∷ []) (ts ∷ []) lines edited
always c manner ts lines edited none way = way_weaker (puts_blank c manner lines ≡ false) (c ∷ []) (ts ∷ []) lines edited (λ is. tt) way

-- a header line that is put in without one is one line more
header_is_one_more : (brackets : Brackets) (q p : Address) (last : Step) (manner : Manner) (lines : List Line) → p ≡ q ++ last ∷ [] → IsInNoValue lines q
    → StandsInLayout manner.layout q brackets p manner lines → blank_standing (parent_of p) p brackets manner (standing lines) ≡ false
    → IsOneMore lines (with_header manner.layout q brackets p manner lines)
header_is_one_more brackets q p last manner lines at outside there none = elim there.more [
  | inl one ↦ one
  | inr blank ↦
      absurd (true≢false
      (sym (ap₂ (λ a b. not a && b) outside blank)
      ∙ ap (λ r. blank_standing r p brackets manner (standing lines)) (sym (parent_is q last) ∙ ap parent_of (sym at)) ∙ none))
]

-- what is to be shown of an edit
abbrev HaveWays : Change → Type 0
HaveWays c = (profile : Profile) (manner : Manner) (before after : List ℕ) (old now : Kinds) → IsNewline manner.newline → (good : IsGoodText profile before old)
    → IsFault profile c old None → IsAfter profile c old now → IsWritten profile c manner before after → HasGone c manner good.tree after

-- the text, by lines of the tree that the text before spells
edited_text : (good d : Doc) (made edited : List Line) (after : List ℕ) → d ≡ good → made ≡ edited → after ≡ d.mark.text ++ joined (lines_parts made)
    → after ≡ good.mark.text ++ joined (lines_parts edited)
edited_text good d made edited after same are text = text ∙ ap₂ (λ (x : Doc) ls. x.mark.text ++ joined (lines_parts ls)) same are

rename_goes : (p : Address) (to : List ℕ) → HaveWays (rename p to)
rename_goes p to profile manner before after old now newline good none is_after (d, spells, edited, made, text) = by (last_step p)
  where
    same : d ≡ good.tree
    same = one_tree d good.tree before spells.0 good.spelled.0

    lines_are : edited ≡ rename_lines p to good.tree.lines
    lines_are = made ∙ ap (λ (x : Doc). rename_lines p to x.lines) same

    by : (p ≡ []) ⊎ ((q : Address) × (s : Step) × (p ≡ q ++ s ∷ [])) → HasGone (rename p to) manner good.tree after
    by (inl root) = absurd (none RootNamed root)
    by (inr (q, Index i, at)) = absurd (none NotAName (q, i, at))
    by (inr (q, Name n, at)) =
        let free : ¬ IsNamed (named good.tree.lines) (child q to) = unnamed good.tree.lines old (child q to) good.facts (λ some. none AlreadyThere (q, n, at, some)) in
        record {
          comments_in = [];
          comments_are = refl;
          edited = rename_lines p to good.tree.lines;
          forms = rename_forms p to good.tree.lines good.spelled.0.lines.forms;
          text = edited_text good.tree d edited (rename_lines p to good.tree.lines) after same lines_are text;
          way = always (rename p to) manner [] good.tree.lines (rename_lines p to good.tree.lines) refl
              (subst (λ x. HasWay (rename x to ∷ []) ([] ∷ []) good.tree.lines (rename_lines x to good.tree.lines)) (sym at)
              (rename_way q n to good.tree.lines good.spelled.0.lines.forms free good.good.0));
        }

insert_goes : (p : Address) (value : List ℕ) → HaveWays (insert p value)
insert_goes p value profile manner before after old now newline good none is_after (d, spells, edited, (v, is_value, q, name, at, there, made), text) =
    let same : d ≡ good.tree = one_tree d good.tree before spells.0 good.spelled.0 in
    let lines = good.tree.lines in
    let there' : HasTable lines q = subst (λ (x : Doc). HasTable x.lines q) same there in
    let lines_are : edited ≡ insert_in q name v manner lines = made ∙ ap (λ (x : Doc). insert_in q name v manner x.lines) same in
    record {
      comments_in = texts (comments (inside [] v));
      comments_are = (v, is_value.0, refl);
      edited = insert_in q name v manner lines;
      forms = insert_forms q name v manner lines there' good.spelled.0.lines.forms newline is_value.0.form is_value.0.shallow;
      text = edited_text good.tree d edited (insert_in q name v manner lines) after same lines_are text;
      way = always (insert p value) manner (texts (comments (inside [] v))) lines (insert_in q name v manner lines) refl
          (subst (λ x. HasWay (insert x value ∷ []) (texts (comments (inside [] v)) ∷ []) lines (insert_in q name v manner lines)) (sym at)
          (insert_way q name value v manner lines there' good.spelled.0.lines.forms));
    }

set_goes : (p : Address) (value : List ℕ) → HaveWays (set p value)
set_goes p value profile manner before after old now newline good none is_after (d, spells, edited, (v, is_value, there, made), text) =
    let same : d ≡ good.tree = one_tree d good.tree before spells.0 good.spelled.0 in
    let lines = good.tree.lines in
    let there' : HasValue lines p = subst (λ (x : Doc). HasValue x.lines p) same there in
    let lines_are : edited ≡ set_lines p v lines = made ∙ ap (λ (x : Doc). set_lines p v x.lines) same in
    let apart : ¬ (p ≡ []) = none RootNamed in
    let fit = all_fit profile value v is_after.0 is_value is_after.1 p (λ r some low. none AddressLength (inr (is_after.0, is_after.1, r, some, low))) in
    let short = set_short p v lines apart there' good.good fit in
    record {
      comments_in = texts (comments (inside [] v));
      comments_are = (v, is_value.0, refl);
      edited = set_lines p v lines;
      forms = set_forms p v lines good.spelled.0.lines.forms is_value.0.form short;
      text = edited_text good.tree d edited (set_lines p v lines) after same lines_are text;
      way = always (set p value) manner (texts (comments (inside [] v))) lines (set_lines p v lines) refl
          (set_way p value v lines apart good.spelled.0.lines.forms is_value.0.form there' good.good.0);
    }

-- units of edited lines are at addresses that their lines name
address_clear : (p : Address) (lines : List Line) → AreLines lines → KeepsRules (named lines) → EachIs (λ m. IsClear p m.address) (named lines) → EachIs (λ u. (a : Address) → u.address ≡ Some a → IsClear p a) (units lines)
address_clear p lines forms keeps clear =
    let d = put_doc (mark_of []) lines in
    let facts = lines_have_data lines keeps in
    let names : named d.lines ≡ named lines = places_are_not_named d.lines lines (put_lines_same lines 0) in
    let there = units_are_named d (mark_of [] ++ joined (lines_parts lines)) (put_doc_spells [] lines forms) (fact_at (named lines)) (subst (λ ms. IsDataOf ms (fact_at (named lines))) (sym names) facts) in
    of_seen (units d.lines) (units lines) (same_seen d.lines lines (put_lines_same lines 0)) there
  where
    clear_of : (a : Address) → IsSome (fact_at (named lines) a) → IsClear p a
    clear_of a some = by (fact_at (named lines) a) refl some
      where
        by : (o : Option Kind) → fact_at (named lines) a ≡ o → IsSome o → IsClear p a
        by None is some = absurd (true≢false (sym some))
        by (Some k) is some =
            from_has (λ m. IsClear p m.address) (λ m. (m.address ≡ a) × (m.kind ≡ k)) (IsClear p a) (λ m c f. subst (IsClear p) f.0 c) (named lines) clear
            (has_of_any _ (named lines) ((lines_have_data lines keeps a k).0 is))

    of_seen : (us ws : List TextUnit) → map seen us ≡ map seen ws → EachIs (λ (u : TextUnit). IfSome u.address (λ a. IsSome (fact_at (named lines) a))) us
        → EachIs (λ (w : TextUnit). (a : Address) → w.address ≡ Some a → IsClear p a) ws
    of_seen us [] is there = tt
    of_seen [] (w ∷ ws) is there = cc
    of_seen (u ∷ us) (w ∷ ws) is there =
        let same : seen u ≡ seen w = cc in (
          (λ a at. clear_of a (subst (λ o. IfSome o (λ b. IsSome (fact_at (named lines) b))) (ap (λ (x : Seen). x.address) same ∙ at) there.0)),
          of_seen us ws (let e : map seen us ≡ map seen ws = cc in e) there.1,
        )

remove_goes : (p : Address) → HaveWays (remove p)
remove_goes p profile manner before after old now newline good none is_after (d, spells, edited, (there, made), text) =
    let same : d ≡ good.tree = one_tree d good.tree before spells.0 good.spelled.0 in
    let lines = good.tree.lines in
    let has_line : HasLine lines p = subst (λ (x : Doc). HasLine x.lines p) same there in
    let lines_are : edited ≡ remove_lines p lines = made ∙ ap (λ (x : Doc). remove_lines p x.lines) same in
    let forms = remove_forms p lines good.spelled.0.lines.forms in
    let far = address_clear p (remove_lines p lines) forms (remove_good p lines has_line good.good).0 (left_clear p lines has_line good.good.0) in
    record {
      comments_in = [];
      comments_are = refl;
      edited = remove_lines p lines;
      forms = forms;
      text = edited_text good.tree d edited (remove_lines p lines) after same lines_are text;
      way = always (remove p) manner [] lines (remove_lines p lines) refl (remove_way p lines good.spelled.0.lines.forms has_line good.good.0 far);
    }

section_goes : (p : Address) → HaveWays (new_section p)
section_goes p profile manner before after old now newline good none is_after (d, spells, edited, (q, name, at, outside, made), text) =
    let same : d ≡ good.tree = one_tree d good.tree before spells.0 good.spelled.0 in
    let lines = good.tree.lines in
    let forms = good.spelled.0.lines.forms in
    let room = section_room profile q name old (subst (λ x. IsFault profile (new_section x) old None) at none) in
    let outside' = subst (λ (x : Doc). IsInNoValue x.lines q) same outside in
    let there = section_laid_out q name manner lines old forms good.good.0 good.facts room outside' in
    let put = there.header in
    let edited' = with_header manner.layout q One (child q name) manner lines in
    let lines_are : edited ≡ edited' =
    made ∙ ap (λ (x : Doc). with_header manner.layout q One p manner x.lines) same ∙ ap (λ x. with_header manner.layout q One x manner lines) at in
    record {
      comments_in = [];
      comments_are = refl;
      edited = edited';
      forms = header_forms One (child q name) manner.newline lines edited' put forms newline;
      text = edited_text good.tree d edited edited' after same lines_are text;
      way =
          subst (λ x. HasWayIf (puts_blank (new_section x) manner lines ≡ false) (new_section x ∷ []) ([] ∷ []) lines edited') (sym at)
          (way_weaker (puts_blank (new_section (child q name)) manner lines ≡ false) (new_section (child q name) ∷ []) ([] ∷ []) lines edited'
          (header_is_one_more One q (child q name) (Name name) manner lines refl outside' there) (section_way q name manner.newline lines edited' put forms));
    }

element_goes : (p : Address) → HaveWays (new_element p)
element_goes p profile manner before after old now newline good none is_after (d, spells, edited, (q, i, at, outside, made), text) =
    let same : d ≡ good.tree = one_tree d good.tree before spells.0 good.spelled.0 in
    let lines = good.tree.lines in
    let forms = good.spelled.0.lines.forms in
    let room = element_room profile q i old (lines_are_closed lines old good.good.0 good.facts) (subst (λ x. IsFault profile (new_element x) old None) at none) in
    let outside' = subst (λ (x : Doc). IsInNoValue x.lines q) same outside in
    let there = element_laid_out q i manner lines old forms good.good.0 good.facts room outside' in
    let put = there.header in
    let edited' = with_header manner.layout q Two (element q i) manner lines in
    let lines_are : edited ≡ edited' =
    made ∙ ap (λ (x : Doc). with_header manner.layout q Two p manner x.lines) same ∙ ap (λ x. with_header manner.layout q Two x manner lines) at in
    record {
      comments_in = [];
      comments_are = refl;
      edited = edited';
      forms = header_forms Two (element q i) manner.newline lines edited' put forms newline;
      text = edited_text good.tree d edited edited' after same lines_are text;
      way =
          subst (λ x. HasWayIf (puts_blank (new_element x) manner lines ≡ false) (new_element x ∷ []) ([] ∷ []) lines edited') (sym at)
          (way_weaker (puts_blank (new_element (element q i)) manner lines ≡ false) (new_element (element q i) ∷ []) ([] ∷ []) lines edited'
          (header_is_one_more Two q (element q i) (Index i) manner lines refl outside' there) (element_way q i manner.newline lines edited' put forms));
    }

pub plain_goes : (c : Change) → HaveWays c
plain_goes (set p value) = set_goes p value
plain_goes (insert p value) = insert_goes p value
plain_goes (rename p to) = rename_goes p to
plain_goes (remove p) = remove_goes p
plain_goes (new_section p) = section_goes p
plain_goes (new_element p) = element_goes p

pub plain_is_carried : PlainIsCarried
plain_is_carried c profile manner before after old now newline good none is_after written new =
    let gone = plain_goes c profile manner before after old now newline good none is_after written in
    let bares = lines_again c profile manner before after old now good new gone in
    partners (c ∷ []) (gone.comments_in ∷ []) good.tree new.tree gone.edited gone.way (gone.comments_are, tt)
    (same_seen new.tree.lines gone.edited bares) (same_newlines new.tree.lines gone.edited bares)
