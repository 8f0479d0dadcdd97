-- The making of edits, one after the other, and the texts for which the working tree then stands.
use Rattle.std.proofs.Common.{◌≡◌, ◌⊎◌, ◌+◌, ◌<◌, ◌≤◌, inl, inr, ℕ, Bool, List, [], ◌∷◌, ◌++◌, take, true, false, true≢false, None, Some, refl, sym, ap, ap₂, subst, subst₂, ◌∙◌, arith}
use Rattle.std.proofs.lemmas.Bool.{cases_lt}
use Rattle.std.proofs.lemmas.List.{same_from_push}
use Rattle.std.proofs.lemmas.Option.{same_Some}
use Rattle.std.proofs.Math.Path.{fun_ext}
use Rattle.std.specs.Prelude.{slice_get}
use Rattle.std.specs.List.{list_any}
use Rattle.toml_tree.proofs.Proved.{one_tree}
use Rattle.toml_tree.specs.Spells.{Spells}
use Rattle.toml_tree.specs.Tree.{Doc, Line}
use Rattle.toml_tree.specs.declared.profile.Profile.{Profile}
use Rattle.toml_names.specs.declared.model.address.Step.{Step}
use Rattle.toml_names.specs.declared.model.address.Step.TheVariants.{Index, Name}
use Rattle.toml_names.specs.model.Addresses.{Address, child, element}
use Rattle.toml_names.specs.model.Data.{Kinds}
use Rattle.toml_edits.specs.After.{IsAfter}
use Rattle.toml_edits.specs.Faults.{IsFault}
use Rattle.toml_edits.specs.declared.fault.EditFault.TheVariants.{RootNamed}
use Rattle.toml_edits.specs.Edits.{Change, set, insert, rename, remove, new_section, new_element}
use Rattle.toml_edits.specs.Lists.{Lead}
use Rattle.toml_editor.specs.declared.fault.EditorFault.{EditorFault}
use Rattle.toml_editor.specs.declared.fault.EditorFault.TheVariants as faults
use Rattle.toml_working.specs.declared.working.Tree.{Tree}
use Rattle.toml_editor.specs.CertifiedLists.{ArePlain}
use Rattle.toml_editor.specs.Edited.{MayBeRefused, MayBeSpread, RemovesFlat, TakesLastElement}
use Rattle.toml_editor.specs.LastTexts.{ChangesLines, IsOneChange, IsPutThere}
use Rattle.toml_editor.specs.Exact.{Follows, HoldsOne, IsAt, IsNeitherAt, IsNeitherOn, HoldsLast, MakesAll, MakesOne, OfPlain, OfNoPlaceAt, PassesAll, PassesAt, PassesOne, Stops, WritesEdit, ShowsEdit}
use Rattle.toml_working.specs.Putting.{manner}
use Rattle.toml_editor.specs.Making.{TellsOne}
use Rattle.toml_editor.specs.PlainTexts.{HasContainerFor, IsPlainOrHeld, IsPlainOn, IsRefusedIn}
use Rattle.toml_text.specs.Source.{text_of}
use Rattle.toml_layout.specs.declared.texts.Texts.{Texts}
use Rattle.toml_working.proofs.Proved.{held_inside, parent_held}
use Rattle.toml_working.specs.HeldLines.{has_container_at}
use Rattle.toml_working.specs.Standing.{Read, holds, standing}
use Rattle.toml_working.specs.Stands.{Stands}
use Rattle.toml_editor.specs.Steps.{AreWritten, last_manner}
use Rattle.toml_editor.specs.EditedLines.{IsWritten, manner_after}
use Rattle.toml_editor.proofs.Mannered.{last_layout}
use Rattle.toml_editor.proofs.written.Closed.{no_end}
use Rattle.toml_editor.proofs.written.Follow.{remove_follows, set_follows, set_is_there}
use Rattle.toml_editor.proofs.written.InsertFollow.{insert_follows}
use Rattle.toml_editor.proofs.written.RemoveNamed.{line_parts}
use Rattle.toml_editor.proofs.written.RenameFollow.{rename_follows}
use Rattle.toml_editor.proofs.written.HeaderFollow.{element_follows, element_refused, section_follows, section_refused}
use Rattle.toml_editor.proofs.written.LastRefused.{insert_refused, last_refused}
use Rattle.toml_editor.proofs.written.TableLines.{stand_together}
use Rattle.toml_editor.proofs.written.TablesTaken.{table_is_taken}
use Rattle.toml_working.specs.RemovingTables.{remove_below}
use Rattle.toml_editor.proofs.written.StandingOrder.{rules_order}
use Rattle.toml_editor.proofs.written.Steps.{one_list_written}
use Rattle.toml_working.specs.Manners.{Manner}

-- a `set` that is plain is made, and what is written of it on the working tree is what it writes
set_made : (profile : Profile) (read : Read) (flat : Bool) (p : Address) (value : List ℕ) (old new : Tree) (done : Bool) → WritesEdit profile read flat (set p value) old new done
    → (text : List ℕ) (kinds now : Kinds) → IsAt profile read old text kinds → IsFault profile (set p value) kinds None
    → IsAfter profile (set p value) kinds now → IsPlainOn profile text (set p value) → (done ≡ true) × Follows profile read (set p value) old new text now
set_made profile read flat p value old new done writes text kinds now at none is_after plain =
    let (rest, sets) = writes at.whole in
    let given = is_after.1.value in
    set_follows profile read old new p value text kinds now at none is_after (plain at.good.tree at.good.spelled) rest (none RootNamed)
    given.tree given.is_value done (sets given.within given.tree given.is_value)

-- what is written of an edit on the working tree is what the edit writes
pub makes_one : (profile : Profile) (read : Read) (flat : Bool) (c : Change) (old new : Tree) (done : Bool) → WritesEdit profile read flat c old new done
    → MakesOne profile read c old new
makes_one profile read flat (set p value) old new done writes text kinds now at none is_after plain =
    (set_made profile read flat p value old new done writes text kinds now at none is_after plain).1
makes_one profile read flat (insert p value) old new done writes text kinds now at none is_after plain =
    let (steps, rest, spelled, lines_in, inside, no_element) = writes at.whole in
    let given = is_after.1.value in
    insert_follows profile read old new p value text kinds now at none is_after (plain at.good.tree at.good.spelled) rest
    given.tree given.is_value steps spelled (lines_in.root given.within given.tree given.is_value) (lines_in.below given.within given.tree given.is_value)
makes_one profile read flat (rename p to) old new done writes text kinds now at none is_after plain =
    rename_follows profile read old new p to text kinds now at none is_after (writes at.whole)
makes_one profile read flat (remove p) old new done writes text kinds now at none is_after plain =
    remove_follows profile read old new p text kinds now at none is_after (plain at.good.tree at.good.spelled) (writes at.whole).0
makes_one profile read flat (new_section p) old new done writes text kinds now at none is_after plain =
    let (steps, spelled, rest, puts) = writes at.whole in
    (section_follows profile read old new p text kinds now at none is_after (plain at.good.tree at.good.spelled) rest steps spelled done puts).1
makes_one profile read flat (new_element p) old new done writes text kinds now at none is_after plain =
    let (steps, spelled, rest, puts) = writes at.whole in
    (element_follows profile read old new p text kinds now at none is_after (plain at.good.tree at.good.spelled) rest steps spelled done puts).1

-- one that changes an array or an inline table in the value of a line
put_there : (q : Address) (last : Step) (lines : List Line) → IsPutThere lines q last → list_any (holds q) (standing lines) ≡ true
put_there q (Index i) lines there = there
put_there q (Name n) lines held = parent_held q (Name n) (standing lines) held

put_is_made : (near : Kinds) (p : Address) (value : List ℕ) (lines : List Line) (done : Bool) → (done ≡ true) ⊎ (¬ MayBeRefused (insert p value) near)
    → done ≡ list_any (has_container_at p) (standing lines) → (q : Address) (last : Step) → p ≡ q ++ last ∷ [] → IsPutThere lines q last → done ≡ true
put_is_made near p value lines done (inl made) told q last is there = made
put_is_made near p value lines done (inr one) told q (Index i) is there = absurd (one (inl (q, i, is)))
put_is_made near p value lines done (inr one) told q (Name n) is there = told ∙ ap (λ a. list_any (has_container_at a) (standing lines)) is ∙ there

pub holds_one : (profile : Profile) (read : Read) (flat : Bool) (near : Kinds) (c : Change) (old new : Tree) (done : Bool) → WritesEdit profile read flat c old new done
    → (flat ≡ true → RemovesFlat c near) → (done ≡ true) ⊎ (¬ MayBeRefused c near) → HoldsOne profile read near c old new
holds_one profile read flat near (insert p value) old new done writes is_flat either text kinds now at none is_after shows (q, last, is, not_root, there) =
    let (steps, rest, spelled, lines_in, inside, no_element) = writes at.whole in
    let given = is_after.1.value in
    let lines = at.good.tree.lines in
    let (opened, outlined, holds_it) = inside given.within given.tree given.is_value in
    let held = holds_it q last is not_root (standing lines) at.stands (rules_order lines at.good.good.0) (put_there q last lines there) in
    let (ts, stands, changed) = held.made (put_is_made near p value lines done either held.tells q last is there) in (
      ts,
      stands,
      record {
        steps = steps;
        spelled = spelled;
        tree = given.tree;
        is_value = given.is_value;
        new = opened;
        outlined = outlined;
        put = changed;
      },
    )
holds_one profile read flat near (remove p) old new done writes is_flat either text kinds now at none is_after shows (inl there) =
    let lines = at.good.tree.lines in
    let (not_root, inside) = held_inside p (standing lines) there in
    let held = (writes at.whole).1 not_root (standing lines) at.stands (rules_order lines at.good.good.0) inside in
    let (ts, stands, changed) = held.made (held.tells ∙ there) in
    (ts, stands, inl (there, changed))
holds_one profile read flat near (remove p) old new done writes is_flat either text kinds now at none is_after shows (inr outside) =
    let lines = at.good.tree.lines in
    let rules = at.good.good.0 in
    let written = writes at.whole in
    let removed = written.3 (none RootNamed) (standing lines) at.stands outside
    (stand_together p flat lines kinds at.good.spelled.0.lines.forms rules at.good.facts (none RootNamed) outside (λ is. shows.flat (is_flat is))) in
    let is_done = table_is_taken profile p lines kinds at.good.facts none outside done removed.tells
    (written.2 (standing lines) at.stands (rules_order lines rules) outside) (elim either [
      | inl made ↦ inl made
      | inr one ↦ inr (λ last. one (shows.refused (inr last)))
    ]) in
    (remove_below p (standing lines), removed.made is_done, inr (outside, refl))
holds_one profile read flat near (set p value) old new done writes is_flat either text kinds now at none is_after shows there = absurd there
holds_one profile read flat near (rename p to) old new done writes is_flat either text kinds now at none is_after shows there = absurd there
holds_one profile read flat near (new_section p) old new done writes is_flat either text kinds now at none is_after shows there = absurd there
holds_one profile read flat near (new_element p) old new done writes is_flat either text kinds now at none is_after shows there = absurd there

-- ---- edits that are not made

no_element : (q r : Address) (i : ℕ) (name : List ℕ) → ¬ (element q i ≡ child r name)
no_element [] [] i name is = cc
no_element [] (t ∷ []) i name is = cc
no_element [] (t ∷ u ∷ r) i name is = cc
no_element (s ∷ []) [] i name is = cc
no_element (s ∷ u ∷ q) [] i name is = cc
no_element (s ∷ q) (t ∷ r) i name is = let rest : element q i ≡ child r name = cc in no_element q r i name rest

-- what holds what is put in, or taken out, is found
put_is_found : (profile : Profile) (read : Read) (flat : Bool) (p : Address) (value : List ℕ) (old new : Tree) (done : Bool) → WritesEdit profile read flat (insert p value) old new done
    → (text : List ℕ) (kinds now : Kinds) → (at : IsAt profile read old text kinds) → IsAfter profile (insert p value) kinds now
    → HasContainerFor at.good.tree.lines (insert p value) → done ≡ true
put_is_found profile read flat p value old new done writes text kinds now at is_after (q, last, is, not_root, held) =
    let (steps, rest, spelled, lines_in, inside, no_element) = writes at.whole in
    let given = is_after.1.value in
    let lines = at.good.tree.lines in
    let (opened, outlined, holds_it) = inside given.within given.tree given.is_value in
    let there = parent_held q last (standing lines) (subst (λ a. list_any (has_container_at a) (standing lines) ≡ true) is held) in
    (holds_it q last is not_root (standing lines) at.stands (rules_order lines at.good.good.0) there).tells ∙ held

taken_is_found : (profile : Profile) (read : Read) (flat : Bool) (p : Address) (old new : Tree) (done : Bool) → WritesEdit profile read flat (remove p) old new done
    → (text : List ℕ) (kinds : Kinds) → (at : IsAt profile read old text kinds) → HasContainerFor at.good.tree.lines (remove p) → done ≡ true
taken_is_found profile read flat p old new done writes text kinds at held =
    let lines = at.good.tree.lines in
    let (not_root, inside) = held_inside p (standing lines) held in
    ((writes at.whole).1 not_root (standing lines) at.stands (rules_order lines at.good.good.0) inside).tells ∙ held

-- one that is not made, and whose place may be spread, has no one place
pub not_spread : (profile : Profile) (read : Read) (flat : Bool) (seen : Kinds) (c : Change) (old new : Tree) (done : Bool)
    → WritesEdit profile read flat c old new done → done ≡ false → MayBeSpread c seen → IsNeitherOn profile read c old
not_spread profile read flat seen (set p value) old new done writes is may text kinds now at none is_after one =
    true≢false (sym (set_made profile read flat p value old new done writes text kinds now at none is_after plain).0 ∙ is)
  where
    plain : IsPlainOn profile text (set p value)
    plain d spelled = elim (one d spelled) [
      | inl h ↦ h
      | inr h ↦ absurd h
    ]
not_spread profile read flat seen (insert p value) old new done writes is (q, j, at_index) text kinds now at none is_after one =
    elim (one at.good.tree at.good.spelled) [
      | inl (table, name, at_name, there) ↦ no_element q table j name (sym at_index ∙ at_name)
      | inr h ↦ true≢false (sym (put_is_found profile read flat p value old new done writes text kinds now at is_after h) ∙ is)
    ]
not_spread profile read flat seen (rename p to) old new done writes is may text kinds now at none is_after one = may
not_spread profile read flat seen (remove p) old new done writes is may text kinds now at none is_after one = may
not_spread profile read flat seen (new_section p) old new done writes is may text kinds now at none is_after one = elim (one at.good.tree at.good.spelled) [
  | inl h ↦
      let (steps, spelled, rest, puts) = writes at.whole in
      true≢false (sym (section_follows profile read old new p text kinds now at none is_after h rest steps spelled done puts).0 ∙ is)
  | inr h ↦ h
]
not_spread profile read flat seen (new_element p) old new done writes is may text kinds now at none is_after one = elim (one at.good.tree at.good.spelled) [
  | inl h ↦
      let (steps, spelled, rest, puts) = writes at.whole in
      true≢false (sym (element_follows profile read old new p text kinds now at none is_after h rest steps spelled done puts).0 ∙ is)
  | inr h ↦ h
]

-- nor has one that takes a last element
pub not_last : (profile : Profile) (read : Read) (flat : Bool) (seen : Kinds) (c : Change) (old new : Tree) (done : Bool) → WritesEdit profile read flat c old new done
    → done ≡ false → TakesLastElement c seen → IsNeitherOn profile read c old
not_last profile read flat seen (remove p) old new done writes is (q, at_index, some, only) text kinds now at none is_after one =
    elim (one at.good.tree at.good.spelled) [
      | inl h ↦ let (table, name, at_name) = line_parts p at.good.tree.lines h in no_element q table 0 name (sym at_index ∙ at_name)
      | inr h ↦ true≢false (sym (taken_is_found profile read flat p old new done writes text kinds at h) ∙ is)
    ]
not_last profile read flat seen (set p value) old new done writes is takes text kinds now at none is_after one = takes
not_last profile read flat seen (insert p value) old new done writes is takes text kinds now at none is_after one = takes
not_last profile read flat seen (rename p to) old new done writes is takes text kinds now at none is_after one = takes
not_last profile read flat seen (new_section p) old new done writes is takes text kinds now at none is_after one = takes
not_last profile read flat seen (new_element p) old new done writes is takes text kinds now at none is_after one = takes

-- where one is made, or the data tell that it is not refused, it is not
pub passes_one : (profile : Profile) (read : Read) (flat : Bool) (near : Kinds) (c : Change) (old new : Tree) (done : Bool) → WritesEdit profile read flat c old new done
    → (done ≡ true) ⊎ (¬ MayBeRefused c near) → PassesOne profile read near c old
passes_one profile read flat near c old new done writes (inr one) text kinds now at none is_after may refused = one may
passes_one profile read flat near (set p value) old new done writes (inl is) text kinds now at none is_after may refused =
    let (rest, sets) = writes at.whole in
    let given = is_after.1.value in
    refused at.good.tree at.good.spelled
    (set_is_there profile read old new p text kinds at (none RootNamed) given.tree done (sets given.within given.tree given.is_value) is)
passes_one profile read flat near (insert p value) old new done writes (inl is) text kinds now at none is_after may refused =
    let (steps, rest, spelled, lines_in, inside, no_element) = writes at.whole in
    let given = is_after.1.value in
    true≢false (sym is ∙ insert_refused profile read old p value text kinds at done (no_element given.within given.tree given.is_value) refused)
passes_one profile read flat near (rename p to) old new done writes (inl is) text kinds now at none is_after may refused = refused
passes_one profile read flat near (remove p) old new done writes (inl is) text kinds now at none is_after may refused =
    true≢false (sym is ∙ last_refused profile read old p text kinds at none done (writes at.whole).2 refused)
passes_one profile read flat near (new_section p) old new done writes (inl is) text kinds now at none is_after may refused =
    let (steps, spelled, rest, puts) = writes at.whole in
    true≢false (sym is ∙ section_refused profile read old new p text kinds at none steps spelled done puts refused)
passes_one profile read flat near (new_element p) old new done writes (inl is) text kinds now at none is_after may refused =
    let (steps, spelled, rest, puts) = writes at.whole in
    true≢false (sym is ∙ element_refused profile read old new p text kinds at none steps spelled done puts refused)

-- ---- lists

-- no edit is made yet
pub none_last : (profile : Profile) (read : Read) (near : Kinds) (tree : Tree) → HoldsLast profile read near [] tree tree
none_last profile read near tree front c is = absurd (no_end front c [] is)

written_more : (profile : Profile) (cs : List Change) (c : Change) (manner : Manner) (before mid after : List ℕ) (edits : AreWritten profile cs manner before mid)
    → IsWritten profile c (last_manner profile cs manner before mid edits) mid after → AreWritten profile (cs ++ c ∷ []) manner before after
written_more profile [] c manner before mid after is written = (after, subst (λ t. IsWritten profile c manner t after) (sym is) written, refl)
written_more profile (d ∷ cs) c manner before mid after (between, first, rest) written =
    (between, first, written_more profile cs c (manner_after d manner first.0.lines) between mid after rest written)

-- by what is written behind them
last_more : (profile : Profile) (cs : List Change) (c : Change) (manner : Manner) (before mid after : List ℕ) (edits : AreWritten profile cs manner before mid)
    (written : IsWritten profile c (last_manner profile cs manner before mid edits) mid after)
    → last_manner profile (cs ++ c ∷ []) manner before after (written_more profile cs c manner before mid after edits written)
    ≡ manner_after c (last_manner profile cs manner before mid edits) written.0.lines
unfolding written_more
last_more profile [] c manner before mid after is written =
    let moved = subst (λ t. IsWritten profile c manner t after) (sym is) written in
    ap (λ (d : Doc). manner_after c manner d.lines) (one_tree moved.0 written.0 mid (subst (Spells moved.0) is moved.1.0) written.1.0)
last_more profile (d ∷ cs) c manner before mid after (between, first, rest) written =
    last_more profile cs c (manner_after d manner first.0.lines) between mid after rest written

-- the last of them, on the data to which those before it lead
pub lead_parted : (profile : Profile) (cs : List Change) (c : Change) (old now : Kinds) → Lead profile (cs ++ c ∷ []) old now
    → (mid : Kinds) × Lead profile cs old mid × IsFault profile c mid None × IsAfter profile c mid now
lead_parted profile [] c old now (none, mid, is_after, same) = (old, (λ a. refl), none, subst (IsAfter profile c old) (fun_ext same) is_after)
lead_parted profile (d ∷ cs) c old now (none, mid, is_after, lead) =
    let last = lead_parted profile cs c mid now lead in (last.0, (none, mid, is_after, last.1), last.2, last.3)

-- and on the text that they write
plain_parted : (profile : Profile) (cs : List Change) (c : Change) (manner : Manner) (text : List ℕ) → ArePlain profile (cs ++ c ∷ []) manner text
    → ArePlain profile cs manner text × ((between : List ℕ) → AreWritten profile cs manner text between → IsPlainOn profile between c)
plain_parted profile [] c manner text plain = (tt, λ between is. subst (λ t. IsPlainOn profile t c) is plain.0)
plain_parted profile (d ∷ cs) c manner text plain = (
  (plain.0, λ first is. (plain_parted profile cs c (manner_after d manner is.0.lines) first (plain.1 first is)).0),
  λ between written. (plain_parted profile cs c (manner_after d manner written.1.0.lines) written.0 (plain.1 written.0 written.1)).1 between written.2,
)

-- none is made yet
pub none_made : (profile : Profile) (read : Read) (tree : Tree) → MakesAll profile read [] tree tree
none_made profile read tree text kinds now at lead plain = record {
  after = text;
  written = refl;
  at = subst (IsAt profile read tree text) (fun_ext lead) at;
  texts = refl;
  mannered = refl;
}

-- one more is made
pub more_made : (profile : Profile) (read : Read) (cs : List Change) (c : Change) (old tree new : Tree)
    → MakesAll profile read cs old tree → MakesOne profile read c tree new → MakesAll profile read (cs ++ c ∷ []) old new
more_made profile read cs c old tree new all makes text kinds now at lead plain =
    let (mid, first, none, is_after) = lead_parted profile cs c kinds now lead in
    let (plain_all, plain_one) = plain_parted profile cs c (manner old) text plain in
    let here = all text kinds mid at first plain_all in
    let one = makes here.after mid now here.at none is_after (plain_one here.after here.written) in
    let written = subst (λ m. IsWritten profile c m here.after one.after) here.mannered one.written in
    record {
      after = one.after;
      written = written_more profile cs c (manner old) text here.after one.after here.written written;
      at = one.at;
      texts = one.texts ∙ here.texts;
      mannered =
          one.mannered
          ∙ ap₂ (λ m (d : Doc). manner_after c m d.lines) here.mannered (one_tree one.written.0 written.0 here.after one.written.1.0 written.1.0)
          ∙ sym (last_more profile cs c (manner old) text here.after one.after here.written written);
    }

-- one more is, of which it is told what it makes
pub last_made : (profile : Profile) (read : Read) (cs : List Change) (c : Change) (near part : Kinds) (old mid new : Tree) → Lead profile cs near part
    → MakesAll profile read cs old mid → HoldsOne profile read part c mid new → HoldsLast profile read near (cs ++ c ∷ []) old new
last_made profile read cs c near part old mid new led makes one front d is text kinds now last at lead none is_after shows plain between written e spells there =
    let (fronts, edits) = same_from_push cs front c d is in
    let all = makes text kinds now at (subst (λ es. Lead profile es kinds now) (sym fronts) lead)
    (subst (λ es. ArePlain profile es (manner old) text) (sym fronts) plain) in
    let text_is : all.after ≡ between = one_list_written profile cs (manner old) text all.after between all.written
    (subst (λ es. AreWritten profile es (manner old) text between) (sym fronts) written) in
    let tree_is : all.at.good.tree ≡ e = one_tree all.at.good.tree e all.after all.at.good.spelled.0 (subst (Spells e) (sym text_is) spells.0) in
    let (ts, stands, changed) = one all.after now last all.at (subst (λ x. IsFault profile x now None) (sym edits) none)
    (subst (λ x. IsAfter profile x now last) (sym edits) is_after)
    (subst (λ x. ShowsEdit x part now) (sym edits) (shows part (subst (λ es. Lead profile es near part) fronts led)))
    (subst₂ (λ (x : Doc) y. IsOneChange x.lines y) (sym tree_is) (sym edits) there) in (
      ts,
      subst (λ t. Stands t read new.slots.items ts) (ap (λ (s : Texts). text_of s.source) all.texts) stands,
      subst (λ x. ChangesLines x profile d (standing e.lines) ts)
          (ap (λ (m : Manner). m.layout) all.mannered ∙ last_layout profile cs (manner old) text all.after all.written)
          (subst₂ (λ (x : Doc) y. ChangesLines (manner mid).layout profile y (standing x.lines) ts) tree_is edits changed),
    )

-- ---- what holds of one edit, where those before it are made

-- the tree stands for no text on which it is not so of an edit without a fault
abbrev pub OfOne : Profile → Read → Change → Tree → (Change → List ℕ → Kinds → Type 0) → Type 0
OfOne profile read c tree P = (text : List ℕ) (kinds now : Kinds) → IsAt profile read tree text kinds
    → IsFault profile c kinds None → IsAfter profile c kinds now → P c text kinds

of_plain_made : (profile : Profile) (read : Read) (cs : List Change) (i : ℕ) (c : Change) (old tree : Tree) (P : Change → List ℕ → Kinds → Type 0)
    → MakesAll profile read (take i cs) old tree → slice_get cs i ≡ Some c → OfOne profile read c tree P → OfPlain profile read cs old i P
of_plain_made profile read cs i c old tree P makes here one d there text kinds mid now at lead none is_after plain between written =
    let all = makes text kinds mid at lead plain in
    let same : c ≡ d = same_Some c d (sym here ∙ there) in
    let text_is : all.after ≡ between = one_list_written profile (take i cs) (manner old) text all.after between all.written written in
    subst₂ (λ e t. P e t mid) same text_is
    (one all.after mid now all.at (subst (λ e. IsFault profile e mid None) (sym same) none) (subst (λ e. IsAfter profile e mid now) (sym same) is_after))

-- the first so many are not refused, nor is one more
pub none_passed : (profile : Profile) (read : Read) (cs : List Change) (near : Kinds) (tree : Tree) → PassesAll profile read cs near 0 tree
none_passed profile read cs near tree k low = absurd (omega (arith, low))

pub more_passed : (profile : Profile) (read : Read) (cs : List Change) (near part : Kinds) (i : ℕ) (c : Change) (old tree : Tree)
    → PassesAll profile read cs near i old → Lead profile (take i cs) near part → MakesAll profile read (take i cs) old tree
    → slice_get cs i ≡ Some c → PassesOne profile read part c tree → PassesAll profile read cs near (i + 1) old
more_passed profile read cs near part i c old tree so_far lead makes here one k low = by (cases_lt k i)
  where
    by : k < i ⊎ (i ≤ k) → PassesAt profile read cs near old k
    by (inl less) = so_far k less
    by (inr least) =
        let same : i ≡ k = omega (arith, low, least) in
        subst (PassesAt profile read cs near old) same
        (part, lead, of_plain_made profile read cs i c old tree (λ d text kinds. MayBeRefused d part → ¬ IsRefusedIn profile text d) makes here one)

-- the fault with which they end
pub stops_at : (profile : Profile) (read : Read) (cs : List Change) (near part : Kinds) (i : ℕ) (c : Change) (old tree : Tree)
    (fault : EditorFault) → PassesAll profile read cs near i old → MakesAll profile read (take i cs) old tree → slice_get cs i ≡ Some c
    → TellsOne profile i c part fault → OfNoPlaceAt (λ at. IsNeitherOn profile read c tree) fault → Stops profile read cs near old fault
stops_at profile read cs near part i c old tree fault so_far makes here tells not = by fault tells not
  where
    passed : (j : ℕ) → j ≡ i → PassesAll profile read cs near j old
    passed j is = subst (λ n. PassesAll profile read cs near n old) (sym is) so_far

    not_at : (j : ℕ) → j ≡ i → IsNeitherOn profile read c tree → IsNeitherAt profile read cs j old
    not_at j is one = subst (λ n. IsNeitherAt profile read cs n old) (sym is)
        (of_plain_made profile read cs i c old tree (λ d text kinds. ¬ IsPlainOrHeld profile text d) makes here one)

    by : (f : EditorFault) → TellsOne profile i c part f → OfNoPlaceAt (λ at. IsNeitherOn profile read c tree) f → Stops profile read cs near old f
    by (faults.Edit j x) h one = record { passed = passed j h.0; neither = tt }
    by (faults.Spread j) h one = record { passed = passed j h.0; neither = not_at j h.0 one }
    by (faults.LastElement j) h one = record { passed = passed j h.0; neither = not_at j h.0 one }
    by faults.NoMemory h one = record { passed = tt; neither = tt }
    by (faults.Text x) h one = absurd h
    by (faults.Syntax x) h one = absurd h
    by (faults.Names x) h one = absurd h
    by faults.TooLong h one = absurd h
    by (faults.Unverified r) h one = absurd h
