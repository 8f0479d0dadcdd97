use Rattle.std.proofs.Common.{arith}
use Rattle.toml_working.specs.Following.{is_landmark}
use Rattle.toml_working.specs.Starting.{read_of}
use Rattle.toml_working.proofs.WentUp.{up_found, up_past}
use Rattle.toml_working.proofs.working.Tree.landmark_in.Goals as goal

pub returns-then-branch : goal.returns-then-branch
returns-then-branch c place up =
    up_found (is_landmark c.args.what) (read_of c.args.before) c.args.self.now.slots.items place c.args.place.slot c.loop-index.index c.in_ok-is_landmark.field-0
    (omega (arith, c.loop-index-test.true)) (omega (arith, c.loop-index.auto.index)) c.in_ok-is_landmark.ensures c.if-branch.true (c.loop-index.invariant place up)

pub loop-index-preserved : goal.loop-index-preserved
loop-index-preserved c place up =
    up_past (is_landmark c.args.what) (read_of c.args.before) c.args.self.now.slots.items place c.args.place.slot c.loop-index.index c.in_ok-is_landmark.field-0
    (omega (arith, c.loop-index-test.true)) c.in_ok-is_landmark.ensures c.if-branch.false (c.loop-index.invariant place up)
