use Rattle.std.proofs.Common.{◌∙◌, ◌≤◌, length, arith, sym, true}
use Rattle.toml_layout.specs.Items.{items_of}
use Rattle.toml_layout.proofs.ItemGaps.{item_count}
use Rattle.toml_layout.proofs.OpenEntries.{few}
use Rattle.toml_layout.proofs.PairMarks.{kept_at, left_so, none_kept}
use Rattle.toml_layout.proofs.SetInside.{some_if}
use Rattle.toml_layout.proofs.texts.Texts.is_left.Goals as goal

pub returns-then-branch : goal.returns-then-branch
returns-then-branch c =
    let list = (items_of c.args.pairs.now).list in
    let some = some_if c.args.parent.now c.is_empty.result c.is_empty.ensures c.if-is_empty.false in
    sym (left_so c.args.parent.now c.args.steps.now list true some
    (kept_at c.args.parent.now c.args.steps.now list c.loop-index.index (sym c.in_ok-keeps_at.ensures ∙ c.if-branch.true)))

pub returns : goal.returns
returns c =
    let list = (items_of c.args.pairs.now).list in
    let some = some_if c.args.parent.now c.is_empty.result c.is_empty.ensures c.if-is_empty.false in
    let count = item_count c.args.pairs.now in
    let all = c.len-index-end.ensures.exact (few c.args.pairs.now) in
    let past : length list ≤ c.loop-index.index = omega (arith, count, all, c.loop-index-test.false) in
    sym (left_so c.args.parent.now c.args.steps.now list _ some
    (none_kept c.args.parent.now c.args.steps.now list (λ i low. c.loop-index.invariant i (omega (arith, low, past)))))
