use Rattle.std.proofs.Common.{◌≡◌, ◌∙◌, ap, refl, subst, subst₂, sym, true, false, Some}
use Rattle.std.proofs.lemmas.Option.{slice_get_read}
use Rattle.std.specs.Box.{with_value}
use Rattle.toml_lists.specs.Gaps.{LiesAt}
use Rattle.toml_layout.specs.declared.tree.Value.TheVariants.{Array, Inline}
use Rattle.toml_layout.specs.declared.tree.Value.TheViews.{out-Entries}
use Rattle.toml_layout.specs.Leading.{first_index, LeadsOn}
use Rattle.toml_layout.specs.SettingIn.{SetsEntry, SetsIn}
use Rattle.toml_layout.specs.OpenOutlines.{entries, leaf_text, value}
use Rattle.toml_layout.specs.Outlines.{Listed, Braced}
use Rattle.toml_layout.proofs.OpenEntries.{changed_at, changed_before, changed_behind, entry_missing}
use Rattle.toml_layout.proofs.Outlined.{array_made, inline_made, scalar_made}
use Rattle.toml_layout.proofs.SetInside.{empty_if, some_if, set_here, token_kept, list_kept, list_set, table_kept, table_set}
use Rattle.toml_layout.proofs.texts.Texts.+setting.Goals as goal

pub set_at-returns : goal.set_at-returns
set_at-returns t c =
    let list = c.args.list.now in
    changed_at (λ v w. SetsIn c.args.steps.now (value c.args.new) v w c.in_ok-done.done) list.items c.args.place c.index_mut.result.now c.set_in.new.own
    (slice_get_read list.items list.len c.args.place c.index_mut.result.now list.ok.0 c.requires c.index_mut.ensures.value) c.in_ok-done.ensures

pub set_entry-returns-in_ok-done-in-Some-Before : goal.set_entry-returns-in_ok-done-in-Some-Before
set_entry-returns-in_ok-done-in-Some-Before t c =
    let list = (out-Entries c.args.entries.now).list in
    let done = c.in_ok-done-in-Some-Before.done in
    changed_before (λ v w. SetsIn c.args.steps.now (value c.args.new) v w done) (done ≡ false) c.args.entries.now c.set_at.new.list list.last c.args.index
    c.in-Some-Before.place (subst (LiesAt list c.args.index) c.in-Some-Before.field-0-is c.in-Some-Before.ensures) c.in_ok-done-in-Some-Before.ensures

pub set_entry-returns-in_ok-done-in-Some-Behind : goal.set_entry-returns-in_ok-done-in-Some-Behind
set_entry-returns-in_ok-done-in-Some-Behind t c =
    let list = (out-Entries c.args.entries.now).list in
    let done = c.in_ok-done-in-Some-Behind.done in
    changed_behind (λ v w. SetsIn c.args.steps.now (value c.args.new) v w done) (done ≡ false) c.args.entries.now c.set_at-in-Some-Behind.new.list list.last
    c.args.index c.in-Some-Behind.place (subst (LiesAt list c.args.index) c.in-Some-Behind.field-0-is c.in-Some-Behind.ensures)
    c.in_ok-done-in-Some-Behind.ensures

pub set_entry-returns-in-None : goal.set_entry-returns-in-None
set_entry-returns-in-None t c =
    entry_missing (λ v w. SetsIn c.args.steps.now (value c.args.new) v w false) (false ≡ false) c.args.entries.now c.args.index c.in-None.ensures refl

pub set_in-returns-then-is_empty : goal.set_in-returns-then-is_empty
set_in-returns-then-is_empty t c =
    let new = value c.args.new in
    let empty = empty_if c.args.steps.now c.is_empty.result c.is_empty.ensures c.if-is_empty.true in
    subst (λ s. SetsIn s new (value c.args.own.now) new true) (sym empty) (set_here new (value c.args.own.now))

pub set_in-returns-in-Scalar : goal.set_in-returns-in-Scalar
set_in-returns-in-Scalar t c =
    let some = some_if c.args.steps.now c.is_empty.result c.is_empty.ensures c.if-is_empty.false in
    subst (λ v. SetsIn c.args.steps.now (value c.args.new) v v false) (sym (ap value c.in-Scalar.is ∙ scalar_made c.in-Scalar.field-0))
    (token_kept c.args.steps.now (value c.args.new) (leaf_text c.in-Scalar.field-0) some)

pub set_in-returns-in_ok-done-in-Some : goal.set_in-returns-in_ok-done-in-Some
set_in-returns-in_ok-done-in-Some t c =
    let steps = c.args.steps.now in
    let new = value c.args.new in
    let done = c.in_ok-done-in-Some.done in
    let old = entries c.in-Array.elements.value in
    let now = entries c.set_entry.new.entries in
    let before = ap value c.in-Array.is ∙ array_made c.in-Array.elements in
    let first : first_index steps ≡ Some c.in-Some.index = sym c.index_first.ensures ∙ c.in-Some.is in
    let inner = subst₂ (λ s e. SetsEntry c.in-Some.index s new (entries e) now done) c.behind.ensures c.deref_mut.ensures.value
    c.in_ok-done-in-Some.ensures in
    let after = with_value c.in-Array.elements c.set_entry.new.entries in
    subst (λ v. SetsIn steps new v (value (Array after)) done) (sym before)
    (subst (λ v. SetsIn steps new (Listed old.opening old.entries) v done) (sym (array_made after)) (list_set steps c.in-Some.index new old now done first inner))

pub set_in-returns-in-None : goal.set_in-returns-in-None
set_in-returns-in-None t c =
    let some = some_if c.args.steps.now c.is_empty.result c.is_empty.ensures c.if-is_empty.false in
    let old = entries c.in-Array.elements.value in
    let before = ap value c.in-Array.is ∙ array_made c.in-Array.elements in
    subst (λ v. SetsIn c.args.steps.now (value c.args.new) v (value (Array c.in-Array.elements)) false) (sym before)
    (subst (λ v. SetsIn c.args.steps.now (value c.args.new) (Listed old.opening old.entries) v false) (sym (array_made c.in-Array.elements))
    (list_kept c.args.steps.now (value c.args.new) old.opening old.entries some (sym c.index_first.ensures ∙ c.in-None.is)))

pub set_in-returns-in_ok-done-in-Some-2 : goal.set_in-returns-in_ok-done-in-Some-2
set_in-returns-in_ok-done-in-Some-2 t c =
    let steps = c.args.steps.now in
    let new = value c.args.new in
    let done = c.in_ok-done-in-Some-2.done in
    let old = entries c.in-Inline.pairs.value in
    let now = entries c.set_entry-in-Some-2.new.entries in
    let i = c.in-Some-2.index in
    let used = c.in-Some-2.used in
    let some = some_if steps c.is_empty.result c.is_empty.ensures c.if-is_empty.false in
    let before = ap value c.in-Inline.is ∙ inline_made c.in-Inline.pairs in
    let found = subst₂ (λ e r. LeadsOn (entries e).entries steps r) c.deref.ensures c.in-Some-2.is c.in_ok-index-in-Inline.ensures in
    let inner = subst₂ (λ s e. SetsEntry i s new (entries e) now done) c.behind-in-Some-2.ensures c.deref_mut-in-Some-2.ensures.value
    c.in_ok-done-in-Some-2.ensures in
    let after = with_value c.in-Inline.pairs c.set_entry-in-Some-2.new.entries in
    subst (λ v. SetsIn steps new v (value (Inline after)) done) (sym before)
    (subst (λ v. SetsIn steps new (Braced old.opening old.entries) v done) (sym (inline_made after)) (table_set steps i used new old now done some found inner))

pub set_in-returns-in-None-2 : goal.set_in-returns-in-None-2
set_in-returns-in-None-2 t c =
    let some = some_if c.args.steps.now c.is_empty.result c.is_empty.ensures c.if-is_empty.false in
    let old = entries c.in-Inline.pairs.value in
    let before = ap value c.in-Inline.is ∙ inline_made c.in-Inline.pairs in
    let none = subst₂ (λ e r. LeadsOn (entries e).entries c.args.steps.now r) c.deref.ensures c.in-None-2.is
    c.in_ok-index-in-Inline.ensures in
    subst (λ v. SetsIn c.args.steps.now (value c.args.new) v (value (Inline c.in-Inline.pairs)) false) (sym before)
    (subst (λ v. SetsIn c.args.steps.now (value c.args.new) (Braced old.opening old.entries) v false) (sym (inline_made c.in-Inline.pairs))
    (table_kept c.args.steps.now (value c.args.new) old.opening old.entries some none))
