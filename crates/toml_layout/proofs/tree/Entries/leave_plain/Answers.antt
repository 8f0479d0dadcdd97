use Rattle.std.proofs.Common.{arith}
use Rattle.toml_layout.specs.Items.{gap_parts, item, items_of}
use Rattle.toml_layout.proofs.ItemGaps.{item_count, not_there}
use Rattle.toml_layout.proofs.OpenEntries.{few}
use Rattle.toml_layout.proofs.TakenParts.{after_twice, before_twice, plain_before, plain_end, plain_last}
use Rattle.toml_layout.proofs.tree.Entries.leave_plain.Goals as goal

pub returns-then-has : goal.returns-then-has
returns-then-has c =
    let m = items_of c.args.self.now in
    let left = gap_parts c.in_ok-left.left in
    let (it, here, stood, now) = before_twice m (items_of c.change_before-next.new.self) (items_of c.change_before-empty.new.self) c.args.index (gap_parts c.empty.result)
    left (gap_parts c.change_before-next.result) (gap_parts c.change_before-empty.result) c.change_before-next.ensures c.change_before-empty.ensures in
    plain_before m (items_of c.change_before-empty.new.self) c.args.index (item c.args.entry) it (gap_parts c.in_ok-joined.field-0) (gap_parts c.change_before-next.result) left
    here stood now c.in_ok-joined.ensures c.in_ok-left.ensures

pub returns-in-Some : goal.returns-in-Some
returns-in-Some c =
    let e = c.args.self.now in
    plain_end (items_of e) (items_of c.take_end.new.self) (items_of c.put_end.new.self) c.args.index (item c.args.entry) (gap_parts c.in_ok-joined-2.field-0)
    (gap_parts c.in-Some.end) (gap_parts c.in_ok-left-2.left) (not_there e c.args.index c.has.result c.has.ensures c.if-has.false) c.in-Some.ensures.stood c.take_end.ensures.now
    c.put_end.ensures c.in_ok-joined-2.ensures c.in_ok-left-2.ensures

pub returns : goal.returns
returns c =
    let e = c.args.self.now in
    let mid = c.take_end.new.self in
    let gap = gap_parts c.in_ok-left-4.left in
    let was = gap_parts c.change_after-above.result in
    let last = c.in-Some-checked_sub.last in
    let (it, here, stood, now) = after_twice (items_of mid) (items_of c.change_after-above.new.self) (items_of c.change_after-empty.new.self) last
    (gap_parts c.empty-2.result) gap was (gap_parts c.change_after-empty.result) c.change_after-above.ensures c.change_after-empty.ensures in
    let count = item_count mid in
    let long = c.len.ensures.exact (few mid) in
    plain_last (items_of e) (items_of mid) (items_of c.change_after-empty.new.self) c.args.index last (item c.args.entry) it was gap
    (not_there e c.args.index c.has.result c.has.ensures c.if-has.false) c.in_default.ensures.stood c.take_end.ensures.now
    (omega (arith, c.in-Some-checked_sub.ensures, count, long)) here stood now c.in_ok-left-4.ensures
