use Rattle.std.proofs.Common.{◌<◌, length, ap, arith}
use Rattle.std.proofs.lemmas.Result.{IfOk-weaker}
use Rattle.toml_text.specs.Source.{text_of}
use Rattle.toml_layout.specs.Holding.{TakesHeld}
use Rattle.toml_layout.specs.declared.changing.Inside.TheVariants as changes
use Rattle.toml_working.specs.Starting.{read_of}
use Rattle.toml_working.proofs.Answered.{on_ok_always}
use Rattle.toml_working.proofs.AtPlace.{holder_at}
use Rattle.toml_working.proofs.HeldLines.{fewer_steps, line_held}
use Rattle.toml_working.proofs.RemovedOne.{holder_goes, never_inside}
use Rattle.toml_working.proofs.working.Tree.remove_value.Goals as goal

pub returns-then-depth-steps-clause-line : goal.returns-then-depth-steps-clause-line
returns-then-depth-steps-clause-line c =
    let read = read_of c.args.before in
    let low : c.depth.result < length c.args.at.now = omega (arith, ap length c.steps.ensures) in
    on_ok_always _ c.change_value.result
    (never_inside c.args.at.now read c.args.self.now c.change_value.new.self c.args.place c.depth.result (c.depth.ensures read.lines) low)

pub returns-then-depth-steps-clause-value : goal.returns-then-depth-steps-clause-value
returns-then-depth-steps-clause-value c =
    let read = read_of c.args.before in
    let tree = c.args.self.now in
    let at = c.args.at.now in
    IfOk-weaker c.change_value.result _ _ (λ done changed. λ found not_root ss stands ordered there.
    let (slot, s, slot_is, placed, line_is, leads) = holder_at read tree.slots.items c.args.place at found in
    line_held at changes.Remove (TakesHeld tree.texts.layout) tree.texts read c.args.place tree.slots.items c.change_value.new.self.slots.items done s placed
    leads (λ x y h. h) changed ss stands ordered)
    c.change_value.ensures.slots

pub returns-in_ok-remove_line-clause-line : goal.returns-in_ok-remove_line-clause-line
returns-in_ok-remove_line-clause-line c =
    holder_goes c.args.at.now (read_of c.args.before) c.args.self.now c.remove_line.new.self c.args.place c.in_ok-remove_line.ensures.rest
    c.in_ok-remove_line.ensures.line

pub returns-in_ok-remove_line-clause-value : goal.returns-in_ok-remove_line-clause-value
returns-in_ok-remove_line-clause-value c found not_root ss stands ordered there =
    let read = read_of c.args.before in
    let few = fewer_steps c.args.at.now (text_of c.args.self.now.texts.source) read c.args.self.now.slots.items c.args.place ss found stands ordered there in
    let counts = c.depth.ensures read.lines in
    let long = ap length c.steps.ensures in
    absurd (omega arith)
