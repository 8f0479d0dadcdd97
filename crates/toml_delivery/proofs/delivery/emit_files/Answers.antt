use Rattle.std.proofs.Common.{arith, length, rules, ◌∙◌}
use Rattle.std.proofs.lemmas.List.{length-set}
use Rattle.toml_delivery.proofs.Delivered.{all_sent, before_more, behind_more, part_at, part_sent, whole_at}
use Rattle.toml_delivery.proofs.delivery.emit_files.Goals as goal

pub loop-at-preserved : goal.loop-at-preserved
loop-at-preserved g c =
    let kept = c.loop-at.invariant in
    let low = c.loop-at-test.true in
    record {
      long = length-set c.loop-at.files c.loop-at.at c.emit.new.writer ∙ kept.long;
      within = omega (arith, length-set c.loop-at.files c.loop-at.at c.emit.new.writer, low);
      before = before_more g.F.Write.contents c.args.files.now c.loop-at.files c.args.texts.now c.loop-at.at c.emit.new.writer low kept.before kept.behind
          (whole_at g.F.Write.contents c.loop-at.files c.args.texts.now c.loop-at.at c.index-files-at.result c.emit.new.writer c.index-texts-at.result c.deref.result.now
          low (search rules) c.index-texts-at.is c.deref.ensures.value c.in_ok-emit.ensures.bytes c.in_ok-emit.ensures.count);
      behind = behind_more g.F.Write.contents c.args.files.now c.loop-at.files c.loop-at.at c.emit.new.writer kept.behind;
    }

pub returns-in_err-emit : goal.returns-in_err-emit
returns-in_err-emit g c =
    let kept = c.loop-at.invariant in
    let low = c.loop-at-test.true in (
      c.loop-at.at,
      part_sent g.F.Write.contents c.args.files.now c.loop-at.files c.args.texts.now c.loop-at.at c.emit.new.writer kept.long low kept.before kept.behind
          (part_at g.F.Write.contents c.loop-at.files c.args.texts.now c.loop-at.at c.index-files-at.result c.emit.new.writer c.index-texts-at.result c.deref.result.now
          c.in_err-emit.field-0.0.written low (search rules) c.index-texts-at.is c.deref.ensures.value c.in_err-emit.ensures.fewer c.in_err-emit.ensures.bytes c.in_err-emit.ensures.count),
      search rules,
    )

pub returns : goal.returns
returns g c =
    let kept = c.loop-at.invariant in
    (length c.args.files.now, all_sent g.F.Write.contents c.args.files.now c.loop-at.files c.args.texts.now c.loop-at.at _ kept.long (search rules) (omega arith) kept.before, omega arith)
