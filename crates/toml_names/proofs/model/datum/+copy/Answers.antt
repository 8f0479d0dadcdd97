use Rattle.toml_names.proofs.Common.{◌≡◌, ◌+◌, Some, List, string_cmp, subst, sym, All-turn, get, deref_pair, AreSameElements, Datum}
use Rattle.toml_names.proofs.lemmas.model.Alike.{arrays_alike, tables_like}
use Rattle.toml_names.proofs.lemmas.model.Copies.{AreCopied, Completes, copied_more, copied_all, completed, completes_more}
use Rattle.toml_names.proofs.model.datum.+copy.Goals as goal

pub Datum::copy-returns-in_ok-copy_items-in-Array : goal.Datum::copy-returns-in_ok-copy_items-in-Array
Datum::copy-returns-in_ok-copy_items-in-Array t c =
    rw c.in-Array.is
    ((arrays_alike c.in_ok-copy_items-in-Array.field-0 c.in-Array.items).0
    (subst (λ (ds : List Datum). AreSameElements (c.in_ok-copy_items-in-Array.field-0).items ds) c.deref.ensures.value c.in_ok-copy_items-in-Array.ensures))

pub Datum::copy-returns-in_ok-copy_members-in-Table : goal.Datum::copy-returns-in_ok-copy_members-in-Table
Datum::copy-returns-in_ok-copy_members-in-Table t c = rw c.in-Table.is (tables_like c.in_ok-copy_members-in-Table.field-0 c.in-Table.members c.in_ok-copy_members-in-Table.ensures)

pub copy_items-returns : goal.copy_items-returns
copy_items-returns t c = copied_all c.args.items.now c.loop-item.copies.items c.loop-item.item-index c.loop-item-test.false c.loop-item.invariant

pub copy_items-loop-item-preserved : goal.copy_items-loop-item-preserved
copy_items-loop-item-preserved t c =
    subst (λ (ds : List Datum). AreCopied (c.loop-item.item-index + 1) c.args.items.now ds) (sym c.in_ok-push.ensures.items)
    (copied_more c.args.items.now c.loop-item.copies.items c.loop-item.item-index c.in_ok-copy.field-0 c.item-item.result c.loop-item-test.true c.item-item.is c.loop-item.invariant c.in_ok-copy.ensures)

pub copy_members-loop-name-preserved : goal.copy_members-loop-name-preserved
copy_members-loop-name-preserved t c =
    let gives = c.into_iter-name-iterator.ensures.into_iter_gives in
    let there : get string_cmp c.args.members.now c.in-Some.name.now ≡ Some c.in-Some.member.now =
    All-turn deref_pair (λ e. get string_cmp c.args.members.now e.0 ≡ Some e.1) _ _ _ _ _ _ _ gives.6 gives.0 c.loop-name.yielded_by c.in-Some.is c.next.ensures.steps in
    completes_more c.loop-name.copies c.add_member.new.members c.args.members.now c.loop-name.name-iterator c.next.new.self (c.in-Some.name.now, c.in-Some.member.now) c.in_ok-copied.copied c.as_str.result.now
    c.in-Some.ensures.steps c.as_str.ensures.value c.in_ok-copied.ensures there c.loop-name.invariant c.in_ok-add_member.ensures

pub copy_members-returns : goal.copy_members-returns
copy_members-returns t c = completed c.loop-name.copies c.args.members.now (subst (λ es. Completes c.loop-name.copies es c.args.members.now) c.in-None.ensures.steps.0 c.loop-name.invariant)
