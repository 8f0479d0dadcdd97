use Rattle.std.proofs.Common.{◌≤◌, length, ap, subst, arith}
use Rattle.toml_working.specs.DottedTables.{has_in_table}
use Rattle.toml_working.specs.Placing.{lines_from}
use Rattle.toml_working.specs.Seeing.{read_by}
use Rattle.toml_working.specs.TableEnds.{PassedInTableBy}
use Rattle.toml_working.proofs.Placed.{past_all}
use Rattle.toml_working.proofs.LastInTable.{in_table_all}
use Rattle.toml_working.proofs.working.Tree.last_in_table.Goals as goal

pub returns-then-ends : goal.returns-then-ends
returns-then-ends c lines =
    let read = read_by c.args.before.units.now lines in
    let slots = c.args.self.now.slots.items in
    let all = lines_from read slots c.args.from.slot c.args.from.index in
    let (rest, none, passed) = subst (λ b. PassedInTableBy c.args.address.now read slots all c.loop-slot.slot b c.table_lines_in-found.result.0) c.if-ends.true (c.table_lines_in-found.ensures lines all (c.loop-slot.invariant lines)) in
    in_table_all c.args.address.now read slots all rest c.table_lines_in-found.result.0 passed none

pub returns : goal.returns
returns c lines =
    let read = read_by c.args.before.units.now lines in
    let slots = c.args.self.now.slots.items in
    let all = lines_from read slots c.args.from.slot c.args.from.index in
    let past : length slots ≤ c.loop-slot.slot = omega (arith, c.loop-slot-test.false) in
    in_table_all c.args.address.now read slots all (lines_from read slots c.loop-slot.slot c.loop-slot.skip) c.loop-slot.last (c.loop-slot.invariant lines) (ap (has_in_table c.args.address.now) (past_all read slots c.loop-slot.slot c.loop-slot.skip past))
