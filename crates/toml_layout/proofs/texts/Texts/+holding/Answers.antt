use Rattle.std.proofs.Common.{◌≡◌, ◌∙◌, [], ap, inl, inr, refl, subst, subst₂, sym, false, true, Some}
use Rattle.std.proofs.lemmas.Option.{slice_get_read}
use Rattle.std.specs.Box.{with_value}
use Rattle.toml_lists.specs.Gaps.{LiesAt}
use Rattle.toml_layout.specs.declared.tree.Value.TheVariants.{Array, Inline}
use Rattle.toml_layout.specs.declared.tree.Value.TheViews.{out-Entries}
use Rattle.std.specs.List.{list_all}
use Rattle.toml_layout.specs.Holders.{has_holder, is_name}
use Rattle.toml_layout.specs.Holding.{ChangesElement, ChangesPairs, HoldsEntry, HoldsIn, MakesHeld}
use Rattle.toml_layout.specs.Items.{items_of}
use Rattle.toml_layout.specs.Leading.{first_index, LeadsOn}
use Rattle.toml_layout.specs.OpenOutlines.{entries, leaf_text, value}
use Rattle.toml_layout.specs.Outlines.{Listed, Braced, Token}
use Rattle.toml_layout.proofs.Holders.{list_ends, more_steps, no_index, no_steps, none_if, table_names}
use Rattle.toml_layout.proofs.HeldInside.{held_here, list_holds, not_held, one_step, table_holds}
use Rattle.toml_layout.proofs.OpenEntries.{changed_at, changed_before, changed_behind, entry_missing}
use Rattle.toml_layout.proofs.Outlined.{array_made, inline_made, scalar_made}
use Rattle.toml_layout.proofs.SetInside.{empty_if, index_on, some_if}
use Rattle.toml_layout.proofs.texts.Texts.+holding.Goals as goal

pub held_at-returns : goal.held_at-returns
held_at-returns t c =
    let list = c.args.list.now in
    let makes = MakesHeld c.args.self.layout c.args.change in
    changed_at (λ v w. HoldsIn c.args.steps.now makes v w c.in_ok-done.done) list.items c.args.place c.index_mut.result.now c.change_held.new.own
    (slice_get_read list.items list.len c.args.place c.index_mut.result.now list.ok.0 c.requires c.index_mut.ensures.value) c.in_ok-done.ensures

pub held_entry-returns-in_ok-done-in-Some-Before : goal.held_entry-returns-in_ok-done-in-Some-Before
held_entry-returns-in_ok-done-in-Some-Before t c =
    let list = (out-Entries c.args.entries.now).list in
    let done = c.in_ok-done-in-Some-Before.done in
    let makes = MakesHeld c.args.self.layout c.args.change in
    changed_before (λ v w. HoldsIn c.args.steps.now makes v w done) (done ≡ false) c.args.entries.now c.held_at.new.list list.last c.args.index
    c.in-Some-Before.place (subst (LiesAt list c.args.index) c.in-Some-Before.field-0-is c.in-Some-Before.ensures) c.in_ok-done-in-Some-Before.ensures

pub held_entry-returns-in_ok-done-in-Some-Behind : goal.held_entry-returns-in_ok-done-in-Some-Behind
held_entry-returns-in_ok-done-in-Some-Behind t c =
    let list = (out-Entries c.args.entries.now).list in
    let done = c.in_ok-done-in-Some-Behind.done in
    let makes = MakesHeld c.args.self.layout c.args.change in
    changed_behind (λ v w. HoldsIn c.args.steps.now makes v w done) (done ≡ false) c.args.entries.now c.held_at-in-Some-Behind.new.list list.last
    c.args.index c.in-Some-Behind.place (subst (LiesAt list c.args.index) c.in-Some-Behind.field-0-is c.in-Some-Behind.ensures)
    c.in_ok-done-in-Some-Behind.ensures

pub held_entry-returns-in-None : goal.held_entry-returns-in-None
held_entry-returns-in-None t c =
    let makes = MakesHeld c.args.self.layout c.args.change in
    entry_missing (λ v w. HoldsIn c.args.steps.now makes v w false) (false ≡ false) c.args.entries.now c.args.index c.in-None.ensures refl

pub change_held-returns-in_default : goal.change_held-returns-in_default
change_held-returns-in_default t c =
    let v = value c.args.own.now in
    subst (λ s. HoldsIn s (MakesHeld c.args.self.layout c.args.change) v v false) (sym (none_if c.args.steps.now c.in_default.ensures.cases)) (not_held (MakesHeld c.args.self.layout c.args.change) [] v (no_steps v))

pub change_held-returns-in-Scalar : goal.change_held-returns-in-Scalar
change_held-returns-in-Scalar t c =
    let makes = MakesHeld c.args.self.layout c.args.change in
    subst (λ v. HoldsIn c.args.steps.now makes v v false) (sym (ap value c.in-Scalar.is ∙ scalar_made c.in-Scalar.field-0))
    (not_held makes c.args.steps.now (Token (leaf_text c.in-Scalar.field-0)) refl)

pub change_held-returns-in-None : goal.change_held-returns-in-None
change_held-returns-in-None t c =
    let makes = MakesHeld c.args.self.layout c.args.change in
    let old = entries c.in-Array.elements.value in
    let before = ap value c.in-Array.is ∙ array_made c.in-Array.elements in
    subst (λ v. HoldsIn c.args.steps.now makes v (value (Array c.in-Array.elements)) false) (sym before)
    (subst (λ v. HoldsIn c.args.steps.now makes (Listed old.opening old.entries) v false) (sym (array_made c.in-Array.elements))
    (not_held makes c.args.steps.now (Listed old.opening old.entries)
    (no_index old.opening old.entries c.args.steps.now (sym c.index_first.ensures ∙ c.in-None.is))))

pub change_held-returns-then-is_empty : goal.change_held-returns-then-is_empty
change_held-returns-then-is_empty t c =
    let steps = c.args.steps.now in
    let layout = c.args.self.layout in
    let parent = c.in-Some.parent.now in
    let i = c.in-Some-index_first.index in
    let old = entries c.in-Array.elements.value in
    let first : first_index steps ≡ Some i = sym c.index_first.ensures ∙ c.in-Some-index_first.is in
    let none = empty_if parent c.is_empty.result c.is_empty.ensures c.if-is_empty.true in
    let named = one_step steps parent c.in-Some.field-0-0.now i c.in-Some.ensures.cases.0 none first in
    let there = ap (λ v. has_holder v steps) (ap value c.in-Array.is ∙ array_made c.in-Array.elements) ∙ list_ends old.opening old.entries i steps named in
    held_here (MakesHeld layout c.args.change) steps c.args.own.now _ there (inl (record {
      old = c.in-Array.elements;
      now = with_value c.in-Array.elements c.change_element.new.elements;
      was_is = c.in-Array.is;
      other_is = refl;
      index = i;
      named = named;
      made = subst (λ e. ChangesElement layout c.args.change i (items_of e) (items_of c.change_element.new.elements)) c.deref_mut.ensures.value c.in_ok-change_element-in-Some-index_first.ensures;
    }))

pub change_held-returns-in_ok-done-in-Some-index_first : goal.change_held-returns-in_ok-done-in-Some-index_first
change_held-returns-in_ok-done-in-Some-index_first t c =
    let steps = c.args.steps.now in
    let makes = MakesHeld c.args.self.layout c.args.change in
    let done = c.in_ok-done-in-Some-index_first.done in
    let i = c.in-Some-index_first.index in
    let old = entries c.in-Array.elements.value in
    let now = entries c.held_entry.new.entries in
    let before = ap value c.in-Array.is ∙ array_made c.in-Array.elements in
    let first : first_index steps ≡ Some i = sym c.index_first.ensures ∙ c.in-Some-index_first.is in
    let inner = subst₂ (λ s e. HoldsEntry i s makes (entries e) now done) c.behind.ensures c.deref_mut-in-Some-index_first.ensures.value
    c.in_ok-done-in-Some-index_first.ensures in
    let some = more_steps steps c.in-Some.parent.now c.in-Some.field-0-0.now c.in-Some.ensures.cases.0
    (some_if c.in-Some.parent.now c.is_empty.result c.is_empty.ensures c.if-is_empty.false) in
    let after = with_value c.in-Array.elements c.held_entry.new.entries in
    subst (λ v. HoldsIn steps makes v (value (Array after)) done) (sym before)
    (subst (λ v. HoldsIn steps makes (Listed old.opening old.entries) v done) (sym (array_made after))
    (list_holds makes steps i old now done (index_on steps i first) some inner))

pub change_held-returns-in_ok-done-in-Some-2 : goal.change_held-returns-in_ok-done-in-Some-2
change_held-returns-in_ok-done-in-Some-2 t c =
    let steps = c.args.steps.now in
    let makes = MakesHeld c.args.self.layout c.args.change in
    let parent = c.in-Some.parent.now in
    let done = c.in_ok-done-in-Some-2.done in
    let old = entries c.in-Inline.pairs.value in
    let now = entries c.held_entry-in-Some-2.new.entries in
    let i = c.in-Some-2.index in
    let used = c.in-Some-2.used in
    let before = ap value c.in-Inline.is ∙ inline_made c.in-Inline.pairs in
    let found = subst₂ (λ e r. LeadsOn (entries e).entries parent r) c.deref.ensures c.in-Some-2.is c.in_ok-index-in-Inline.ensures in
    let inner = subst₂ (λ s e. HoldsEntry i s makes (entries e) now done) c.behind-in-Some-2.ensures c.deref_mut-in-Some-2.ensures.value
    c.in_ok-done-in-Some-2.ensures in
    let after = with_value c.in-Inline.pairs c.held_entry-in-Some-2.new.entries in
    subst (λ v. HoldsIn steps makes v (value (Inline after)) done) (sym before)
    (subst (λ v. HoldsIn steps makes (Braced old.opening old.entries) v done) (sym (inline_made after))
    (table_holds makes steps parent c.in-Some.field-0-0.now i used old now done c.in-Some.ensures.cases.0 found inner))

pub change_held-returns-in_ok-change_pairs-in-None-2 : goal.change_held-returns-in_ok-change_pairs-in-None-2
change_held-returns-in_ok-change_pairs-in-None-2 t c =
    let steps = c.args.steps.now in
    let layout = c.args.self.layout in
    let parent = c.in-Some.parent.now in
    let old = entries c.in-Inline.pairs.value in
    let none = subst₂ (λ e r. LeadsOn (entries e).entries parent r) c.deref.ensures c.in-None-2.is c.in_ok-index-in-Inline.ensures in
    let names : list_all is_name steps ≡ true = sym c.are_names.ensures ∙ c.if-not-are_names.false in
    let there = ap (λ v. has_holder v steps) (ap value c.in-Inline.is ∙ inline_made c.in-Inline.pairs)
    ∙ table_names old.opening old.entries steps parent c.in-Some.field-0-0.now c.in-Some.ensures.cases.0 none ∙ names in
    held_here (MakesHeld layout c.args.change) steps c.args.own.now _ there (inr (record {
      old = c.in-Inline.pairs;
      now = with_value c.in-Inline.pairs c.change_pairs.new.pairs;
      was_is = c.in-Inline.is;
      other_is = refl;
      parent = parent;
      last = c.in-Some.field-0-0.now;
      split = c.in-Some.ensures.cases.0;
      innermost = none;
      made = subst (λ e. ChangesPairs layout c.args.change parent steps (items_of e) (items_of c.change_pairs.new.pairs)) c.deref_mut-in-None-2.ensures.value
          c.in_ok-change_pairs-in-None-2.ensures;
    }))

pub change_held-returns-then-not-are_names : goal.change_held-returns-then-not-are_names
change_held-returns-then-not-are_names t c =
    let steps = c.args.steps.now in
    let makes = MakesHeld c.args.self.layout c.args.change in
    let parent = c.in-Some.parent.now in
    let old = entries c.in-Inline.pairs.value in
    let before = ap value c.in-Inline.is ∙ inline_made c.in-Inline.pairs in
    let none = subst₂ (λ e r. LeadsOn (entries e).entries parent r) c.deref.ensures c.in-None-2.is c.in_ok-index-in-Inline.ensures in
    let off : list_all is_name steps ≡ false = sym c.are_names.ensures ∙ c.if-not-are_names.true in
    subst (λ v. HoldsIn steps makes v (value (Inline c.in-Inline.pairs)) false) (sym before)
    (subst (λ v. HoldsIn steps makes (Braced old.opening old.entries) v false) (sym (inline_made c.in-Inline.pairs))
    (not_held makes steps (Braced old.opening old.entries)
    (table_names old.opening old.entries steps parent c.in-Some.field-0-0.now c.in-Some.ensures.cases.0 none ∙ off)))
