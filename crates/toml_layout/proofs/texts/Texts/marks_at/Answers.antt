use Rattle.std.proofs.Common.{◌<◌, length, arith}
use Rattle.toml_layout.specs.Items.{items_of}
use Rattle.toml_layout.proofs.ItemGaps.{item_count}
use Rattle.toml_layout.proofs.PairMarks.{marks_on}
use Rattle.toml_layout.proofs.texts.Texts.marks_at.Goals as goal

pub loop-index-preserved : goal.loop-index-preserved
loop-index-preserved c =
    let list = (items_of c.args.pairs.now).list in
    let count = item_count c.args.pairs.now in
    let low : c.loop-index.index < length list = omega (arith, count, c.len-index-end.ensures.within, c.loop-index-test.true) in
    marks_on c.args.steps.now list c.loop-index.index c.in_ok-reaches_at.field-0 c.loop-index.marks.items _ low c.in_ok-reaches_at.ensures
    c.in_ok-push.ensures.items c.loop-index.invariant
