-- Plain edits, from text to text.
use Rattle.std.proofs.Common.{◌≡◌, ◌⊎◌, inl, inr, ℕ, ◌+◌, ◌<◌, List, [], ◌∷◌, ◌++◌, length, Some, None, IsSome, refl, sym, ap, ap₂, ◌∙◌, subst, subst₂}
use Rattle.std.proofs.lemmas.List.{same_from_push}
use Rattle.std.specs.Prelude.{◌↔◌}
use Rattle.toml_text.specs.Forms.{IsNewline}
use Rattle.toml_tree.specs.Places.{put_lines, put_doc}
use Rattle.toml_tree.specs.Profiles.{AreLinesOfProfile, SpellsIn}
use Rattle.toml_tree.specs.Spells.{Spells, AreLines, joined, lines_parts, mark_of}
use Rattle.toml_tree.specs.Tree.{Piece, Line, Doc}
use Rattle.toml_tree.specs.declared.profile.Profile.{Profile}
use Rattle.toml_tree.specs.Bare.{bare_lines}
use Rattle.toml_tree.proofs.Proved.{one_tree, one_value, put_doc_spells, put_lines_of_profile, put_lines_same}
use Rattle.toml_names.specs.declared.model.address.Step.{Step}
use Rattle.toml_names.specs.declared.model.address.Step.TheVariants.{Name, Index}
use Rattle.toml_names.specs.mentions.Mentions.{Named, named}
use Rattle.toml_names.specs.mentions.Rules.{KeepsRules, IsShort, max_steps}
use Rattle.toml_names.specs.model.Addresses.{Address, child, element}
use Rattle.toml_names.specs.model.Data.{Kinds, IsDataOf, IsFact, fact_at}
use Rattle.toml_names.specs.model.Places.{IsNamed}
use Rattle.toml_names.specs.reader.Names.{AreGood}
use Rattle.toml_names.proofs.Proved.{lines_are_closed, lines_have_data, places_are_not_named}
use Rattle.toml_edits.specs.After.{IsAfter}
use Rattle.toml_edits.specs.Edits.{Change, set, insert, rename, remove, new_section, new_element}
use Rattle.toml_edits.specs.Faults.{IsFault}
use Rattle.toml_edits.specs.declared.fault.EditFault.TheVariants.{RootNamed, NotAName, AlreadyThere, AddressLength}
use Rattle.toml_edits.proofs.Proved.{one_after}
use Rattle.toml_layout.specs.declared.tree.Brackets.TheVariants.{One, Two}
use Rattle.toml_working.specs.InsertingInTables.{insert_in}
use Rattle.toml_working.specs.Removing.{remove_lines}
use Rattle.toml_working.specs.Renaming.{rename_lines}
use Rattle.toml_working.specs.Setting.{set_lines}
use Rattle.toml_editor.specs.Steps.{IsGoodText, IsPlain, GoodTextsAreDocuments, PlainIsWritten, PlainStep, PlainSteps, AreWritten, OneWritten, OneListWritten}
use Rattle.toml_editor.specs.EditedLines.{AreEdited, IsWritten, with_header, manner_after}
use Rattle.toml_editor.proofs.Mannered.{keeps_newline}
use Rattle.toml_editor.proofs.written.Fitting.{all_fit, keeps_value, unnamed, last_step}
use Rattle.toml_editor.proofs.written.HeaderFormed.{header_forms, header_of_profile}
use Rattle.toml_editor.proofs.written.InsertFormed.{insert_forms}
use Rattle.toml_editor.proofs.written.InsertKept.{insert_rules, insert_short, insert_data}
use Rattle.toml_editor.proofs.written.Members.{same_member}
use Rattle.toml_editor.proofs.written.Profiled.{set_of_profile, insert_of_profile, remove_of_profile, rename_of_profile}
use Rattle.toml_editor.proofs.written.RemoveKept.{remove_forms}
use Rattle.toml_editor.proofs.written.RemovedEither.{remove_data, remove_good}
use Rattle.toml_editor.proofs.written.RenameFormed.{rename_forms}
use Rattle.toml_editor.proofs.written.RenameKept.{rename_good, rename_data}
use Rattle.toml_editor.proofs.written.HeaderFacts.{element_room, section_room}
use Rattle.toml_editor.proofs.written.ElementKept.{element_data, element_rules, element_short}
use Rattle.toml_editor.proofs.written.HeaderLaidOut.{element_laid_out, section_laid_out}
use Rattle.toml_editor.proofs.written.SectionKept.{section_data, section_rules, section_short}
use Rattle.toml_editor.proofs.written.SetFormed.{set_forms}
use Rattle.toml_editor.proofs.written.SetKept.{set_rules, set_short, set_data}
use Rattle.toml_working.specs.Manners.{Manner}

pub good_texts_are_documents : GoodTextsAreDocuments
good_texts_are_documents profile text within = (
  (λ g. (within, g.1.tree, g.1.spelled.0, g.1.good, g.1.spelled.1)),
  (λ d. (fact_at (named d.1.lines), record { tree = d.1; spelled = (d.2, d.4); good = d.3; facts = lines_have_data d.1.lines d.3.0 })),
)

edited_lines : (profile : Profile) (c : Change) (manner : Manner) (lines : List Line) (old now : Kinds) → IsAfter profile c old now → IsPlain lines c → (new : List Line) × AreEdited profile c manner lines new
edited_lines profile (set p text) manner lines old now after there = let v = after.1.value.tree in (set_lines p v lines, (v, after.1.value.is_value, there, refl))
edited_lines profile (insert p text) manner lines old now after (q, name, at, there) =
    let v = after.1.value.tree in (insert_in q name v manner lines, (v, after.1.value.is_value, q, name, at, there, refl))
edited_lines profile (rename p to) manner lines old now after plain = (rename_lines p to lines, refl)
edited_lines profile (remove p) manner lines old now after there = (remove_lines p lines, (there, refl))
edited_lines profile (new_section p) manner lines old now after (q, name, at, outside) =
    (with_header manner.layout q One p manner lines, (q, name, at, outside, refl))
edited_lines profile (new_element p) manner lines old now after (q, i, at, outside) =
    (with_header manner.layout q Two p manner lines, (q, i, at, outside, refl))

pub plain_is_written : PlainIsWritten
plain_is_written profile c manner before old now good after plain =
    let new = edited_lines profile c manner good.tree.lines old now after plain in
    (good.tree.mark.text ++ joined (lines_parts new.0), (good.tree, good.spelled, new.0, new.1, refl))

-- what is known of the new lines
record AreNew (profile : Profile) (c : Change) (old : Kinds) (new : List Line) : Type 0 where
  forms : AreLines new
  profiled : AreLinesOfProfile profile new
  good : AreGood new
  after : (kinds : Kinds) → IsDataOf (named new) kinds → IsAfter profile c old kinds

module _ (profile : Profile) (manner : Manner) (newline : IsNewline manner.newline) (lines : List Line) (old : Kinds) (forms : AreLines lines) (profiled : AreLinesOfProfile profile lines) (good : AreGood lines) (is : IsDataOf (named lines) old) where
  edited : (c : Change) (now : Kinds) (new : List Line) → IsFault profile c old None → IsAfter profile c old now → AreEdited profile c manner lines new → AreNew profile c old new
  edited (set p text) now new none after (v, value, there, made) =
      let apart : ¬ (p ≡ []) = none RootNamed in
      let fit = all_fit profile text v after.0 value after.1 p (λ r some low. none AddressLength (inr (after.0, after.1, r, some, low))) in
      let short = set_short p v lines apart there good fit in
      subst (AreNew profile (set p text) old) (sym made) (record {
        forms = set_forms p v lines forms value.0.form short;
        profiled = set_of_profile profile p v lines profiled value.1;
        good = (set_rules p v lines apart there good.0 (keeps_value profile text v after.0 value after.1), short);
        after = λ kinds is'. set_data profile p text v lines after.0 old kinds apart there good.0 value after.1 is is';
      })
  edited (insert p text) now new none after (v, value, q, name, at, there, made) =
      let fit = all_fit profile text v after.0 value after.1 (child q name) (λ r some low. none AddressLength (inr (after.0, after.1, r, some, subst (λ x. max_steps < length x + length r) (sym at) low))) in
      let free : ¬ IsNamed (named lines) (child q name) = unnamed lines old (child q name) is (λ some. none AlreadyThere (q, name, at, subst (λ x. IsSome (old x)) (sym at) some)) in
      subst (AreNew profile (insert p text) old) (sym made) (record {
        forms = insert_forms q name v manner lines there forms newline value.0.form value.0.shallow;
        profiled = insert_of_profile profile q name v manner lines there profiled value.1;
        good = (insert_rules q name v manner lines there free good.0 (keeps_value profile text v after.0 value after.1), insert_short q name v manner lines there good.1 fit);
        after = λ kinds is'. subst (λ x. IsAfter profile (insert x text) old kinds) (sym at) (insert_data profile q name text v manner lines after.0 old kinds there value after.1 is is');
      })
  edited (rename p to) now new none after made = by (last_step p)
    where
      by : (p ≡ []) ⊎ ((q : Address) × (s : Step) × (p ≡ q ++ s ∷ [])) → AreNew profile (rename p to) old new
      by (inl root) = absurd (none RootNamed root)
      by (inr (q, Index i, at)) = absurd (none NotAName (q, i, at))
      by (inr (q, Name n, at)) =
          let free : ¬ IsNamed (named lines) (child q to) = unnamed lines old (child q to) is (λ some. none AlreadyThere (q, n, at, some)) in
          subst₂ (λ x l. AreNew profile (rename x to) old l) (sym at) (sym (made ∙ ap (λ x. rename_lines x to lines) at)) (record {
            forms = rename_forms (child q n) to lines forms;
            profiled = rename_of_profile profile (child q n) to lines profiled;
            good = rename_good q n to lines free good;
            after = λ kinds is'. rename_data profile q n to lines old kinds free good.0 is is';
          })
  edited (remove p) now new none after (there, made) =
      subst (AreNew profile (remove p) old) (sym made) (record {
        forms = remove_forms p lines forms;
        profiled = remove_of_profile profile p lines profiled;
        good = remove_good p lines there good;
        after = λ kinds is'. remove_data profile p lines old kinds there good.0 is is';
      })
  edited (new_section p) now new none after (q, name, at, outside, made) =
      let room = section_room profile q name old (subst (λ x. IsFault profile (new_section x) old None) at none) in
      let put = (section_laid_out q name manner lines old forms good.0 is room outside).header in
      let edited = with_header manner.layout q One (child q name) manner lines in
      subst (AreNew profile (new_section p) old) (sym made)
      (subst (λ x. AreNew profile (new_section x) old (with_header manner.layout q One x manner lines)) (sym at) (record {
        forms = header_forms One (child q name) manner.newline lines edited put forms newline;
        profiled = header_of_profile profile One (child q name) manner.newline lines edited put profiled;
        good = (
          section_rules q name manner.newline lines edited old put good.0 is room.table room.free outside,
          section_short q name manner.newline lines edited put good.1 room.short,
        );
        after = λ kinds is'. section_data profile q name manner.newline lines edited old kinds put good.0 is room.table room.free is';
      }))
  edited (new_element p) now new none after (q, i, at, outside, made) =
      let room = element_room profile q i old (lines_are_closed lines old good.0 is) (subst (λ x. IsFault profile (new_element x) old None) at none) in
      let put = (element_laid_out q i manner lines old forms good.0 is room outside).header in
      let edited = with_header manner.layout q Two (element q i) manner lines in
      subst (AreNew profile (new_element p) old) (sym made)
      (subst (λ x. AreNew profile (new_element x) old (with_header manner.layout q Two x manner lines)) (sym at) (record {
        forms = header_forms Two (element q i) manner.newline lines edited put forms newline;
        profiled = header_of_profile profile Two (element q i) manner.newline lines edited put profiled;
        good = (element_rules q i manner.newline lines edited old put good.0 is room outside, element_short q i manner.newline lines edited put good.1 room.short);
        after = λ kinds is'. element_data profile q i manner.newline lines edited old kinds put good.0 is room is';
      }))

-- two maps that are equal at each address are the data of the same
same_data : (ms : List Named) (f g : Kinds) → IsDataOf ms f → ((a : Address) → f a ≡ g a) → IsDataOf ms g
same_data ms f g is same a k = subst (λ o. (o ≡ Some k) ↔ IsFact ms a k) (same a) (is a k)

pub plain_step : PlainStep
plain_step profile c manner before after old now newline good none is_after (d, spells, new, made, text) =
    let same : d ≡ good.tree = one_tree d good.tree before spells.0 good.spelled.0 in
    let made' : AreEdited profile c manner good.tree.lines new = subst (λ (x : Doc). AreEdited profile c manner x.lines new) same made in
    let known = edited profile manner newline good.tree.lines old good.spelled.0.lines.forms good.spelled.1 good.good good.facts c now new none is_after made' in
    let mark : good.tree.mark ≡ record { start = 0; text = mark_of before } = good.spelled.0.mark in
    let at = length (mark_of before) in
    let whole : mark_of before ++ joined (lines_parts new) ≡ after = sym (text ∙ ap (λ (x : Doc). x.mark.text ++ joined (lines_parts new)) same ∙ ap (λ (x : Piece). x.text ++ joined (lines_parts new)) mark) in
    let first = lines_have_data new known.good.0 in
    let facts : IsDataOf (named new) now = same_data (named new) (fact_at (named new)) now first (one_after profile c old (fact_at (named new)) now (known.after (fact_at (named new)) first) is_after) in
    let names : named (put_lines at new) ≡ named new = places_are_not_named (put_lines at new) new (put_lines_same new at) in (
      record {
        tree = put_doc (mark_of before) new;
        spelled = (subst (Spells (put_doc (mark_of before) new)) whole (put_doc_spells before new known.forms), (put_lines_of_profile profile new at).0 known.profiled);
        good = subst (λ ms. KeepsRules ms × IsShort ms) (sym names) known.good;
        facts = subst (λ ms. IsDataOf ms now) (sym names) facts;
      },
      sym mark,
    )

-- the lines of the text that is written are the edited ones, but for places
pub step_lines : (profile : Profile) (c : Change) (manner : Manner) (before after : List ℕ) (old now : Kinds) (newline : IsNewline manner.newline)
    (good : IsGoodText profile before old) (none : IsFault profile c old None) (is_after : IsAfter profile c old now)
    (written : IsWritten profile c manner before after)
    → bare_lines (plain_step profile c manner before after old now newline good none is_after written).0.tree.lines ≡ bare_lines written.2
unfolding plain_step
step_lines profile c manner before after old now newline good none is_after (d, spells, new, made, text) = put_lines_same new (length (mark_of before))

pub plain_steps : PlainSteps
plain_steps profile [] manner before after old now newline good lead written = (
  record {
    tree = good.tree;
    spelled = subst (SpellsIn profile good.tree) written good.spelled;
    good = good.good;
    facts = same_data (named good.tree.lines) old now good.facts lead;
  },
  refl,
)
plain_steps profile (c ∷ cs) manner before after old now newline good lead written =
    let one = plain_step profile c manner before written.0 old lead.1 newline good lead.0 lead.2 written.1 in
    let more = plain_steps profile cs (manner_after c manner written.1.0.lines) written.0 after lead.1 now
    (subst IsNewline (sym (keeps_newline c manner written.1.0.lines)) newline) one.0 lead.3 written.2 in
    (more.0, more.1 ∙ one.1)

-- ---- one text

one_edited : (profile : Profile) (c : Change) (manner : Manner) (old one two : List Line) → AreEdited profile c manner old one → AreEdited profile c manner old two → one ≡ two
one_edited profile (set p text) manner old one two (v, value, there, is) (w, value', there', is') = is ∙ ap (λ x. set_lines p x old) (one_value v w 0 text value.0 value'.0) ∙ sym is'
one_edited profile (insert p text) manner old one two (v, value, q, m, at, there, is) (w, value', r, n, at', there', is') =
    let (tables, names) = same_member q r m n (sym at ∙ at') in
    is ∙ ap₂ (λ x k. insert_in q k x manner old) (one_value v w 0 text value.0 value'.0) names ∙ ap (λ t. insert_in t n w manner old) tables ∙ sym is'
one_edited profile (rename p to) manner old one two is is' = is ∙ sym is'
one_edited profile (remove p) manner old one two (there, is) (there', is') = is ∙ sym is'
one_edited profile (new_section p) manner old one two (q, m, at, outside, is) (r, n, at', outside', is') =
    let (tables, names) = same_member q r m n (sym at ∙ at') in is ∙ ap (λ t. with_header manner.layout t One p manner old) tables ∙ sym is'
one_edited profile (new_element p) manner old one two (q, i, at, outside, is) (r, j, at', outside', is') =
    let arrays = (same_from_push q r (Index i) (Index j) (sym at ∙ at')).0 in is ∙ ap (λ t. with_header manner.layout t Two p manner old) arrays ∙ sym is'

pub one_written : OneWritten
one_written profile c manner before one two (d, spells, new, made, text) (e, spells', new', made', text') =
    let same : d ≡ e = one_tree d e before spells.0 spells'.0 in
    let lines : new ≡ new' = one_edited profile c manner e.lines new new' (subst (λ (x : Doc). AreEdited profile c manner x.lines new) same made) made' in
    text ∙ ap₂ (λ (x : Doc) ls. x.mark.text ++ joined (lines_parts ls)) same lines ∙ sym text'

pub one_list_written : OneListWritten
one_list_written profile [] manner before one two is is' = sym is ∙ is'
one_list_written profile (c ∷ cs) manner before one two (between, is, more) (between', is', more') =
    let same : between ≡ between' = one_written profile c manner before between between' is is' in
    let docs : is.0 ≡ is'.0 = one_tree is.0 is'.0 before is.1.0 is'.1.0 in
    one_list_written profile cs (manner_after c manner is'.0.lines) between' one two
    (subst₂ (λ (d : Doc) b. AreWritten profile cs (manner_after c manner d.lines) b one) docs same more) more'
