use Rattle.std.proofs.Common.{◌≡◌, ◌↔◌, ℕ, ◌-◌, List, Option, Some, IsTrue, string_bytes, string_cmp, below_more, refl, sym, subst}
use Rattle.std.proofs.lemmas.Map.Views.{All-turn}
use Rattle.std.proofs.lemmas.Option.{slice_get_read}
use Rattle.std.specs.Prelude.{slice_get}
use Rattle.std.specs.BTreeMap.{get}
use Rattle.std.specs.Map.Iter.{deref_pair}
use Rattle.toml_names.specs.declared.model.datum.Datum.{Datum}
use Rattle.toml_names.specs.model.Data.{kind_in}
use Rattle.toml_edits.specs.Reach.{Reaches}
use Rattle.toml_edits.proofs.Reaching.{accepted, refused, array_reaches, table_reaches, none_past, none_found, through, refuted, none_more, none_left}
use Rattle.toml_edits.proofs.reach.+reaches.Goals as goal

pub item_reaches-loop-item-preserved : goal.item_reaches-loop-item-preserved
item_reaches-loop-item-preserved t c =
    let item = slice_get_read c.args.items.now _ c.loop-item.item-index c.item-item.result refl c.loop-item-test.true c.item-item.is in
    below_more (λ i. ¬ Reaches (kind_in (slice_get c.args.items.now i)) c.args.steps) c.loop-item.item-index c.loop-item.invariant
    (subst (λ (o : Option Datum). ¬ Reaches (kind_in o) c.args.steps) (sym item) (refuted c.reaches.ensures c.if-reaches.false))

pub item_reaches-returns : goal.item_reaches-returns
item_reaches-returns t c = refused (none_past c.args.items.now c.args.steps c.loop-item.item-index c.loop-item-test.false c.loop-item.invariant)

pub member_reaches-returns-then-reaches : goal.member_reaches-returns-then-reaches
member_reaches-returns-then-reaches t c =
    let gives = c.into_iter-member-iterator.ensures.into_iter_gives in
    let there : get string_cmp c.args.members.now c.in-Some.field-0-0.now ≡ Some c.in-Some.member.now =
    All-turn deref_pair (λ e. get string_cmp c.args.members.now e.0 ≡ Some e.1) _ _ _ _ _ _ _ gives.6 gives.0 c.loop-member.yielded_by c.in-Some.is c.next.ensures.steps in
    accepted (string_bytes c.in-Some.field-0-0.now, subst (λ (o : Option Datum). Reaches (kind_in o) c.args.steps) (sym there) (c.reaches.ensures.0 c.if-reaches.true))

pub member_reaches-loop-member-preserved : goal.member_reaches-loop-member-preserved
member_reaches-loop-member-preserved t c = λ left.
    c.loop-member.invariant (none_more c.args.steps _ c.next.new.self (c.in-Some.field-0-0.now, c.in-Some.member.now) c.in-Some.ensures.steps (refuted c.reaches.ensures c.if-reaches.false) left)

pub member_reaches-returns : goal.member_reaches-returns
member_reaches-returns t c = refused (λ (n, far). none_found c.args.members.now.entries c.args.steps (c.loop-member.invariant (none_left c.args.steps _ c.in-None.ensures.steps.0)) n far)

pub reaches-returns-in-Array : goal.reaches-returns-in-Array
reaches-returns-in-Array t c =
    rw (c.in-Array.is)
    (through (subst (λ (ds : List Datum). IsTrue c.item_reaches.result ↔ ((index : ℕ) × Reaches (kind_in (slice_get ds index)) (c.args.steps - 1))) c.deref.ensures.value c.item_reaches.ensures)
    (array_reaches c.in-Array.items c.args.steps c.if-steps-eq0.false))

pub reaches-returns-in-Table : goal.reaches-returns-in-Table
reaches-returns-in-Table t c = rw (c.in-Table.is) (through c.member_reaches.ensures (table_reaches c.in-Table.members c.args.steps c.if-steps-eq0.false))
