use Rattle.std.proofs.Common.{◌∙◌, ap, arith}
use Rattle.std.specs.List.{list_any}
use Rattle.toml_working.specs.FollowingHeaders.{is_filled}
use Rattle.toml_working.specs.Starting.{read_of}
use Rattle.toml_working.proofs.WentUp.{filled_found, filled_past, filled_slot}
use Rattle.toml_working.proofs.working.Tree.is_filled_in.Goals as goal

pub returns-then-branch : goal.returns-then-branch
returns-then-branch c =
    c.loop-index.invariant
    ∙ filled_found (read_of c.args.before) c.args.self.now.slots.items c.args.from.slot c.loop-index.index c.in_ok-is_filled.field-0 c.in_ok-is_filled.ensures c.if-branch.true

pub loop-index-preserved : goal.loop-index-preserved
loop-index-preserved c =
    c.loop-index.invariant
    ∙ filled_past (read_of c.args.before) c.args.self.now.slots.items c.args.from.slot c.loop-index.index c.in_ok-is_filled.field-0 c.in_ok-is_filled.ensures c.if-branch.false

pub returns : goal.returns
returns c =
    c.loop-index.invariant
    ∙ ap (list_any is_filled)
    (filled_slot (read_of c.args.before) c.args.self.now.slots.items c.args.from.slot c.loop-index.index c.lines_in-index-end.result c.lines_in-index-end.ensures
    (omega (arith, c.loop-index-test.false)))
