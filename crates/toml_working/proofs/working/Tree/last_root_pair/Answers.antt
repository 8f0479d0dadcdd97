use Rattle.std.proofs.Common.{subst}
use Rattle.toml_working.specs.Placing.{FindsLastOf, lines_from}
use Rattle.toml_working.specs.Seeing.{read_by}
use Rattle.toml_working.proofs.Placed.{from_first, last_of_all}
use Rattle.toml_working.proofs.working.Tree.last_root_pair.Goals as goal

pub returns-in-Some : goal.returns-in-Some
returns-in-Some c lines first =
    let read = read_by c.args.before.units.now lines in
    let slots = c.args.self.now.slots.items in
    let from = c.args.self.now.root_end in
    let last = subst (FindsLastOf read slots (lines_from read slots from.slot from.index)) c.in-Some.is (c.last_pair.ensures lines) in
    last_of_all read slots from.slot from.index c.in-Some.found last (c.is_of_root.ensures c.if-is_of_root.true lines) first

pub returns-in_default : goal.returns-in_default
returns-in_default c lines first =
    let read = read_by c.args.before.units.now lines in
    let slots = c.args.self.now.slots.items in
    subst (λ all. FindsLastOf read slots all c.last_pair-in_default.result) (from_first read slots) (c.last_pair-in_default.ensures lines)
