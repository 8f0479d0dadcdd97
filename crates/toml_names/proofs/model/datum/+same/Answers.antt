use Rattle.toml_names.proofs.Common.{◌≡◌, Some, None, is_some, string_bytes, string_cmp, below_more, refl, sym, ap, ◌∙◌, true≢false, All-turn, slice_get_read, slice_get, get, get_by_text, deref_pair, AreSameIn}
use Rattle.toml_names.proofs.lemmas.model.Alike.{scalars_decided, arrays_decided, tables_decided, tables_apart, accepted, refused, scalar_apart, array_apart, table_apart, lengths_alike, items_alike, parts_alike, there_too, each_more, each_none, HasLike-from_each}
use Rattle.toml_names.proofs.model.datum.+same.Goals as goal

pub same-returns-in-Scalar-Scalar : goal.same-returns-in-Scalar-Scalar
same-returns-in-Scalar-Scalar t c = rw (c.in-Scalar-Scalar.is-0, c.in-Scalar-Scalar.is-1) (scalars_decided c.is_same.result c.in-Scalar-Scalar.one c.in-Scalar-Scalar.other c.is_same.ensures)

pub same-returns-in-Array-Array : goal.same-returns-in-Array-Array
same-returns-in-Array-Array t c =
    rw (c.in-Array-Array.is-0, c.in-Array-Array.is-1)
    (arrays_decided c.same_items.result c.in-Array-Array.one c.in-Array-Array.other c.deref.result.now c.deref-in-Array-Array.result.now c.deref.ensures.value c.deref-in-Array-Array.ensures.value c.same_items.ensures)

pub same-returns-then-same_members : goal.same-returns-then-same_members
same-returns-then-same_members t c =
    rw (c.in-Table-Table.is-0, c.in-Table-Table.is-1)
    (tables_decided c.has_names.result c.in-Table-Table.one c.in-Table-Table.other (c.same_members.ensures.0 c.if-same_members.true) c.has_names.ensures)

pub same-returns-else-same_members : goal.same-returns-else-same_members
same-returns-else-same_members t c =
    rw (c.in-Table-Table.is-0, c.in-Table-Table.is-1)
    (tables_apart c.same_members.result c.in-Table-Table.one c.in-Table-Table.other c.same_members.ensures c.if-same_members.false)

pub same-returns-in_default : goal.same-returns-in_default
same-returns-in_default t c = rw c.in_default.is-0 (refused (scalar_apart c.in_default.field-0-0 c.args.other.now c.in_default.not-Scalar-1))

pub same-returns-in_default-2 : goal.same-returns-in_default-2
same-returns-in_default-2 t c = rw c.in_default.is-0 (refused (array_apart c.in_default.field-0-0 c.args.other.now c.in_default.not-Array-1))

pub same-returns-in_default-3 : goal.same-returns-in_default-3
same-returns-in_default-3 t c = rw c.in_default.is-0 (refused (table_apart c.in_default.field-0-0 c.args.other.now c.in_default.not-Table-1))

pub same_items-returns-then-one-other : goal.same_items-returns-then-one-other
same_items-returns-then-one-other t c = refused (λ alike. c.if-one-other.true (lengths_alike c.args.one.now c.args.other.now alike))

pub same_items-returns-then-not-same : goal.same_items-returns-then-not-same
same_items-returns-then-not-same t c =
    let one = slice_get_read c.args.one.now _ c.loop-index.index c.index-one-index.result refl c.loop-index-test.true c.index-one-index.is in
    let other = slice_get_read c.args.other.now _ c.loop-index.index c.index-other-index.result c.if-one-other.false c.loop-index-test.true c.index-other-index.is in
    refused (λ alike. true≢false (sym (c.same.ensures.1 ((parts_alike _ _ _ _ one other).1 (alike c.loop-index.index))) ∙ c.if-not-same.true))

pub same_items-loop-index-preserved : goal.same_items-loop-index-preserved
same_items-loop-index-preserved t c =
    let one = slice_get_read c.args.one.now _ c.loop-index.index c.index-one-index.result refl c.loop-index-test.true c.index-one-index.is in
    let other = slice_get_read c.args.other.now _ c.loop-index.index c.index-other-index.result c.if-one-other.false c.loop-index-test.true c.index-other-index.is in
    below_more (λ i. AreSameIn (slice_get c.args.one.now i) (slice_get c.args.other.now i)) c.loop-index.index c.loop-index.invariant
    ((parts_alike _ _ _ _ one other).0 (c.same.ensures.0 c.if-not-same.false))

pub same_items-returns : goal.same_items-returns
same_items-returns t c = accepted (items_alike c.args.one.now c.args.other.now c.loop-index.index c.if-one-other.false c.loop-index-test.false c.loop-index.invariant)

pub same_members-returns-then-not-same : goal.same_members-returns-then-not-same
same_members-returns-then-not-same t c =
    let gives = c.into_iter-name-iterator.ensures.into_iter_gives in
    let one : get string_cmp c.args.one.now c.in-Some.name.now ≡ Some c.in-Some.member.now =
    All-turn deref_pair (λ e. get string_cmp c.args.one.now e.0 ≡ Some e.1) _ _ _ _ _ _ _ gives.6 gives.0 c.loop-name.yielded_by c.in-Some.is c.next.ensures.steps in
    let other : get_by_text c.args.other.now (string_bytes c.in-Some.name.now) ≡ Some c.in-Some-get.found.now =
    ap (get_by_text c.args.other.now) (sym c.as_str.ensures.value) ∙ sym c.in-Some-get.ensures.value in
    refused (λ alike. true≢false (sym (c.same.ensures.1 ((parts_alike _ _ _ _ one other).1 (alike (string_bytes c.in-Some.name.now) (ap is_some one)))) ∙ c.if-not-same.true))

pub same_members-returns-in-None-get : goal.same_members-returns-in-None-get
same_members-returns-in-None-get t c =
    let gives = c.into_iter-name-iterator.ensures.into_iter_gives in
    let name = string_bytes c.in-Some.name.now in
    let one : get string_cmp c.args.one.now c.in-Some.name.now ≡ Some c.in-Some.member.now =
    All-turn deref_pair (λ e. get string_cmp c.args.one.now e.0 ≡ Some e.1) _ _ _ _ _ _ _ gives.6 gives.0 c.loop-name.yielded_by c.in-Some.is c.next.ensures.steps in
    let other : get_by_text c.args.other.now name ≡ None = ap (get_by_text c.args.other.now) (sym c.as_str.ensures.value) ∙ sym c.in-None-get.ensures.value in
    refused (λ alike. true≢false (sym (there_too _ _ (alike name (ap is_some one)) (ap is_some one)) ∙ ap is_some other))

pub same_members-loop-name-preserved : goal.same_members-loop-name-preserved
same_members-loop-name-preserved t c = λ left.
    let other : get_by_text c.args.other.now (string_bytes c.in-Some.name.now) ≡ Some c.in-Some-get.found.now =
    ap (get_by_text c.args.other.now) (sym c.as_str.ensures.value) ∙ sym c.in-Some-get.ensures.value in
    c.loop-name.invariant
    (each_more (λ name d. AreSameIn (Some d) (get_by_text c.args.other.now name)) _ c.next.new.self (c.in-Some.name.now, c.in-Some.member.now) c.in-Some.ensures.steps
    ((parts_alike _ _ _ _ refl other).0 (c.same.ensures.0 c.if-not-same.false)) left)

pub same_members-returns : goal.same_members-returns
same_members-returns t c = accepted (HasLike-from_each c.args.one.now c.args.other.now (c.loop-name.invariant (each_none (λ name d. AreSameIn (Some d) (get_by_text c.args.other.now name)) _ c.in-None.ensures.steps.0)))
