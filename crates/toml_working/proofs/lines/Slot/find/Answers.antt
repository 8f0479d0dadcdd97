use Rattle.std.proofs.Common.{◌≤◌, ◌∙◌, length, ap, sym, arith}
use Rattle.std.proofs.lemmas.List.{take_all}
use Rattle.std.specs.List.{list_any}
use Rattle.toml_working.specs.Seeing.{is_sought_line, read_by}
use Rattle.toml_working.specs.Standing.{slot_standing}
use Rattle.toml_working.proofs.Sought.{seen_sought, none_on}
use Rattle.toml_working.proofs.lines.Slot.find.Goals as goal

pub loop-index-preserved : goal.loop-index-preserved
loop-index-preserved c lines =
    let ss = slot_standing (read_by c.args.units.now lines) c.args.self.now in
    none_on (is_sought_line c.args.what c.args.at.now) ss c.loop-index.index
    (seen_sought c.args.what c.args.at.now _ c.seen.result c.in_ok-line.line _ (c.seen.ensures lines) c.in_ok-line.was (sym c.is_sought.ensures ∙ c.if-is_sought.false))
    (c.loop-index.invariant lines)

pub returns-clause-finds : goal.returns-clause-finds
returns-clause-finds c lines =
    let ss = slot_standing (read_by c.args.units.now lines) c.args.self.now in
    let past : length ss ≤ c.loop-index.index = omega (arith, c.loop-index-test.false, c.count-index-end.ensures (read_by c.args.units.now lines)) in
    ap (list_any (is_sought_line c.args.what c.args.at.now)) (sym (take_all c.loop-index.index ss past)) ∙ c.loop-index.invariant lines
