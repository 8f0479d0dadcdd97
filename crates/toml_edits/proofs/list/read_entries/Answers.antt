use Rattle.std.proofs.Common.{option_map, sym, ap, subst, ◌∙◌, arith}
use Rattle.toml_edits.specs.Edits.{change}
use Rattle.toml_edits.proofs.Lists.{AreRead, edits_more, edits_stop, edits_all}
use Rattle.toml_edits.proofs.list.read_entries.Goals as goal

pub loop-index-init : goal.loop-index-init
loop-index-init c = subst (AreRead c.args.entries.now 0) (sym c.new-edits.ensures.items) tt

pub returns-in-None : goal.returns-in-None
returns-in-None c =
    edits_stop c.args.entries.now c.loop-index.index c.index-entries-index.result (omega (arith, c.loop-index-test.true)) (sym c.index-entries-index.is) c.loop-index.edits.items c.loop-index.invariant
    (ap (option_map change) (sym c.in-None.is) ∙ c.in_ok-edit.ensures)

pub loop-index-preserved : goal.loop-index-preserved
loop-index-preserved c =
    subst (AreRead c.args.entries.now _) (sym c.in_ok-push-in-Some.ensures.items)
    (edits_more c.args.entries.now c.loop-index.index c.index-entries-index.result (omega (arith, c.loop-index-test.true)) (sym c.index-entries-index.is) c.loop-index.edits.items c.loop-index.invariant c.in-Some.edit
    (ap (option_map change) (sym c.in-Some.is) ∙ c.in_ok-edit.ensures))

pub returns : goal.returns
returns c = edits_all c.args.entries.now c.loop-index.index c.loop-index.edits.items (omega (arith, c.loop-index-test.false)) c.loop-index.invariant
