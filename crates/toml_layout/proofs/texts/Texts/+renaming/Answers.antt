use Rattle.std.proofs.Common.{◌≡◌, ◌<◌, ℕ, List, ◌∙◌, ap, rules, subst, subst₂, sym, Some}
use Rattle.std.proofs.lemmas.Option.{slice_get_read}
use Rattle.std.specs.Box.{with_value}
use Rattle.toml_lists.specs.Gaps.{LiesAt}
use Rattle.std.specs.Global.{Box}
use Rattle.toml_names.specs.model.Addresses.{Address}
use Rattle.toml_layout.specs.declared.tree.Entries.{Entries}
use Rattle.toml_layout.specs.declared.tree.Value.{Value}
use Rattle.toml_layout.specs.declared.tree.Value.TheVariants.{Array, Inline}
use Rattle.toml_layout.specs.declared.tree.Value.TheViews.{out-Entries}
use Rattle.toml_layout.specs.Leading.{first_index, LeadsOn}
use Rattle.toml_layout.specs.OpenOutlines.{entries, value}
use Rattle.toml_layout.specs.Outlines.{Listed, Braced}
use Rattle.toml_layout.specs.RenamingIn.{KeysRenamed, RenamesEntry, RenamesIn}
use Rattle.toml_layout.proofs.OpenEntries.{changed_at, changed_before, changed_behind, entry_missing}
use Rattle.toml_layout.proofs.Outlined.{array_made, inline_made}
use Rattle.toml_layout.proofs.RenameInside.{list_kept, list_renamed, no_step, no_step_renamed, table_keys_renamed, table_renamed}
use Rattle.toml_layout.proofs.texts.Texts.+renaming.Goals as goal

-- the value that an inline table has become, of the outlines of it
braced_renamed : (steps : Address) (to : List ℕ) (own : Value) (pairs : Box Entries) (now : Entries) → own ≡ Inline pairs
    → RenamesIn steps to (Braced (entries pairs.value).opening (entries pairs.value).entries)
    (Braced (entries now).opening (entries now).entries)
    → RenamesIn steps to (value own) (value (Inline (with_value pairs now)))
braced_renamed steps to own pairs now is renames =
    subst (λ v. RenamesIn steps to v (value (Inline (with_value pairs now)))) (sym (ap value is ∙ inline_made pairs))
    (subst (λ v. RenamesIn steps to (Braced (entries pairs.value).opening (entries pairs.value).entries) v)
    (sym (inline_made (with_value pairs now))) renames)

pub rename_at-returns : goal.rename_at-returns
rename_at-returns t c =
    let list = c.args.list.now in
    let low : c.args.place < list.len = search rules in
    changed_at (RenamesIn c.args.steps.now c.args.to.now) list.items c.args.place c.index_mut.result.now c.rename_in.new.own
    (slice_get_read list.items list.len c.args.place c.index_mut.result.now list.ok.0 low c.index_mut.ensures.value) c.in_ok-rename_in.ensures

pub rename_entry-returns-in_ok-rename_at-in-Some-Before : goal.rename_entry-returns-in_ok-rename_at-in-Some-Before
rename_entry-returns-in_ok-rename_at-in-Some-Before t c =
    let list = (out-Entries c.args.entries.now).list in
    changed_before (RenamesIn c.args.steps.now c.args.to.now) (Unit {0}) c.args.entries.now c.rename_at.new.list list.last c.args.index
    c.in-Some-Before.place (subst (LiesAt list c.args.index) c.in-Some-Before.field-0-is c.in-Some-Before.ensures)
    c.in_ok-rename_at-in-Some-Before.ensures

pub rename_entry-returns-in_ok-rename_at-in-Some-Behind : goal.rename_entry-returns-in_ok-rename_at-in-Some-Behind
rename_entry-returns-in_ok-rename_at-in-Some-Behind t c =
    let list = (out-Entries c.args.entries.now).list in
    changed_behind (RenamesIn c.args.steps.now c.args.to.now) (Unit {0}) c.args.entries.now c.rename_at-in-Some-Behind.new.list list.last c.args.index
    c.in-Some-Behind.place (subst (LiesAt list c.args.index) c.in-Some-Behind.field-0-is c.in-Some-Behind.ensures)
    c.in_ok-rename_at-in-Some-Behind.ensures

pub rename_entry-returns-in-None : goal.rename_entry-returns-in-None
rename_entry-returns-in-None t c = entry_missing (RenamesIn c.args.steps.now c.args.to.now) (Unit {0}) c.args.entries.now c.args.index c.in-None.ensures tt

pub rename_in-returns-in_default : goal.rename_in-returns-in_default
rename_in-returns-in_default t c =
    subst (λ s. RenamesIn s c.args.to.now (value c.args.own.now) (value c.args.own.now)) (sym (no_step c.args.steps.now c.in_default.ensures.cases))
    (no_step_renamed c.args.to.now (value c.args.own.now))

pub rename_in-returns-in_ok-rename_entry-in-Some-index_first : goal.rename_in-returns-in_ok-rename_entry-in-Some-index_first
rename_in-returns-in_ok-rename_entry-in-Some-index_first t c =
    let steps = c.args.steps.now in
    let to = c.args.to.now in
    let i = c.in-Some-index_first.index in
    let old = entries c.in-Array.elements.value in
    let now = entries c.rename_entry.new.entries in
    let before = ap value c.in-Array.is ∙ array_made c.in-Array.elements in
    let first : first_index steps ≡ Some i = sym c.index_first.ensures ∙ c.in-Some-index_first.is in
    let inner = subst₂ (λ s e. RenamesEntry i s to (entries e) now) c.behind.ensures c.deref_mut.ensures.value
    c.in_ok-rename_entry-in-Some-index_first.ensures in
    let after = with_value c.in-Array.elements c.rename_entry.new.entries in
    subst (λ v. RenamesIn steps to v (value (Array after))) (sym before)
    (subst (λ v. RenamesIn steps to (Listed old.opening old.entries) v) (sym (array_made after)) (list_renamed steps i to old now first inner))

pub rename_in-returns-in-None : goal.rename_in-returns-in-None
rename_in-returns-in-None t c =
    let steps = c.args.steps.now in
    let to = c.args.to.now in
    let old = entries c.in-Array.elements.value in
    let before = ap value c.in-Array.is ∙ array_made c.in-Array.elements in
    subst (λ v. RenamesIn steps to v (value (Array c.in-Array.elements))) (sym before)
    (subst (λ v. RenamesIn steps to (Listed old.opening old.entries) v) (sym (array_made c.in-Array.elements))
    (list_kept steps to old.opening old.entries (sym c.index_first.ensures ∙ c.in-None.is)))

pub rename_in-returns-in_ok-rename_entry-in-Some-2 : goal.rename_in-returns-in_ok-rename_entry-in-Some-2
rename_in-returns-in_ok-rename_entry-in-Some-2 t c =
    let steps = c.args.steps.now in
    let to = c.args.to.now in
    let parent = c.in-Some.parent.now in
    let old = entries c.in-Inline.pairs.value in
    let now = entries c.rename_entry-in-Some-2.new.entries in
    let i = c.in-Some-2.index in
    let used = c.in-Some-2.used in
    let found = subst₂ (λ e r. LeadsOn (entries e).entries parent r) c.deref.ensures c.in-Some-2.is c.in_ok-index-in-Inline.ensures in
    let inner = subst₂ (λ s e. RenamesEntry i s to (entries e) now) c.behind-in-Some-2.ensures c.deref_mut-in-Some-2.ensures.value
    c.in_ok-rename_entry-in-Some-2.ensures in
    braced_renamed steps to c.args.own.now c.in-Inline.pairs _ c.in-Inline.is
    (table_renamed steps parent c.in-Some.field-0-0.now i used to old now c.in-Some.ensures.cases.0 found inner)

pub rename_in-returns-in_ok-rename_keys-in-None-2 : goal.rename_in-returns-in_ok-rename_keys-in-None-2
rename_in-returns-in_ok-rename_keys-in-None-2 t c =
    let steps = c.args.steps.now in
    let parent = c.in-Some.parent.now in
    let now = entries c.rename_keys.new.pairs in
    let none = subst₂ (λ e r. LeadsOn (entries e).entries parent r) c.deref.ensures c.in-None-2.is c.in_ok-index-in-Inline.ensures in
    let inner = subst (λ e. KeysRenamed steps c.args.to.now (entries e) now) c.deref_mut-in-None-2.ensures.value
    c.in_ok-rename_keys-in-None-2.ensures in
    braced_renamed steps c.args.to.now c.args.own.now c.in-Inline.pairs _ c.in-Inline.is
    (table_keys_renamed steps parent c.in-Some.field-0-0.now c.args.to.now (entries c.in-Inline.pairs.value) now c.in-Some.ensures.cases.0
    none inner)
