use Rattle.std.proofs.Common.{◌≤◌, ◌∙◌, length, ap, sym, arith}
use Rattle.std.specs.List.{list_any}
use Rattle.toml_working.specs.FollowingHeaders.{is_filled}
use Rattle.toml_working.specs.Starting.{read_of}
use Rattle.toml_working.proofs.Placed.{past_all}
use Rattle.toml_working.proofs.working.Tree.has_more.Goals as goal

pub returns : goal.returns
returns c =
    let slots = c.args.self.now.slots.items in
    let past : length slots ≤ c.loop-slot.slot = omega (arith, c.loop-slot-test.false) in
    sym (c.loop-slot.invariant ∙ ap (list_any is_filled) (past_all (read_of c.args.before) slots c.loop-slot.slot c.loop-slot.index past))
