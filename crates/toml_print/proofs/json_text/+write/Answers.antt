use Rattle.std.proofs.Common.{◌<◌, ◌≤◌, ◌∙◌, ℕ, Bor, List, [], Some, length, sym, ap, subst, arith}
use Rattle.std.proofs.lemmas.Result.{on_ok_weaker}
use Rattle.toml_scalar.specs.Values.{scalar_value}
use Rattle.toml_names.specs.reader.Parts.{AreMembers, part_kinds, plain_members, shape_kind}
use Rattle.toml_print.proofs.Written.{items_start, items_more, items_done, member_may, members_start, members_more, members_done, scalar_done, token_written}
use Rattle.toml_print.proofs.json_text.+write.Goals as goal

pub write_part-returns-in-Scalar : goal.write_part-returns-in-Scalar
write_part-returns-in-Scalar t c =
    on_ok_weaker c.write_scalar.result
    (scalar_done c.args.style (part_kinds c.args.whole.now c.args.id) (scalar_value c.in-Scalar.scalar) c.args.writer.now c.write_scalar.new.writer
    (c.in_ok-scalar.ensures ∙ ap (λ s. Some (shape_kind s)) c.in-Scalar.is))
    c.write_scalar.ensures

pub write_items-loop-item-init : goal.write_items-loop-item-init
write_items-loop-item-init t c = items_start c.args.style c.args.writer.now c.begin_array.new.self (token_written _ _ _ _ c.in_ok-begin_array.ensures)

pub write_items-loop-item-preserved : goal.write_items-loop-item-preserved
write_items-loop-item-preserved t c =
    let items = c.items-item-items.result.now in
    let low : c.loop-item.item-index < length items = omega (arith, c.loop-item-test.true, c.loop-item.auto.item-index-end) in
    items_more c.args.style c.args.whole.now c.args.id items c.loop-item.item-index _ c.args.writer.now c.loop-item.writer c.write_part.new.writer low c.loop-item.invariant c.in_ok-write_part.ensures

pub write_items-returns : goal.write_items-returns
write_items-returns t c =
    let items = c.items-item-items.result.now in
    let end : length items ≤ c.loop-item.item-index = omega (arith, c.loop-item-test.false, c.loop-item.auto.item-index-end) in
    items_done c.args.style c.args.whole.now c.args.id items c.loop-item.item-index c.args.writer.now c.loop-item.writer c.end_array.new.self
    c.requires.array c.items-item-items.ensures end c.loop-item.invariant (token_written _ _ _ _ c.in_ok-end_array.ensures)

pub write_members-loop-name-init : goal.write_members-loop-name-init
write_members-loop-name-init t c = members_start c.args.style c.args.writer.now c.begin_object.new.self (token_written _ _ _ _ c.in_ok-begin_object.ensures)

pub write_members-write_part-requires : goal.write_members-write_part-requires
write_members-write_part-requires t c =
    let members = c.deref-name-items.result.now in
    let low : c.loop-name.name-index < length members = omega (arith, c.loop-name-test.true, c.loop-name.auto.name-index-end) in
    let none : Bor (List ℕ) × ℕ = (record { ref_ptr = (0, 0); now = [] }, 0) in
    let may =
    member_may c.args.style c.args.whole.now c.args.id members c.loop-name.name-index none
    (subst (λ l. AreMembers c.args.whole.now c.args.id (plain_members l)) (sym c.deref-name-items.ensures.value) c.in_ok-members.ensures) low in
    (omega (arith, may.0, c.decreases), may.1)

pub write_members-loop-name-preserved : goal.write_members-loop-name-preserved
write_members-loop-name-preserved t c =
    let members = c.deref-name-items.result.now in
    let low : c.loop-name.name-index < length members = omega (arith, c.loop-name-test.true, c.loop-name.auto.name-index-end) in
    members_more c.args.style c.args.whole.now c.args.id members c.loop-name.name-index _ c.args.writer.now c.loop-name.writer c.key.new.self c.write_part.new.writer
    low c.loop-name.invariant (token_written _ _ _ _ c.in_ok-key.ensures) c.in_ok-write_part.ensures

pub write_members-returns : goal.write_members-returns
write_members-returns t c =
    let members = c.deref-name-items.result.now in
    let end : length members ≤ c.loop-name.name-index = omega (arith, c.loop-name-test.false, c.loop-name.auto.name-index-end) in
    members_done c.args.style c.args.whole.now c.args.id members c.loop-name.name-index c.args.writer.now c.loop-name.writer c.end_object.new.self
    c.requires.table (subst (λ l. AreMembers c.args.whole.now c.args.id (plain_members l)) (sym c.deref-name-items.ensures.value) c.in_ok-members.ensures)
    end c.loop-name.invariant (token_written _ _ _ _ c.in_ok-end_object.ensures)
