use Rattle.std.proofs.Common.{◌≡◌}
use Rattle.std.specs.List.{list_any}
use Rattle.toml_working.specs.FollowingHeaders.{is_filled}
use Rattle.toml_working.specs.Placing.{lines_from}
use Rattle.toml_working.specs.Starting.{read_of}
use Rattle.toml_working.proofs.working.Tree.is_filled_in.Given as goal

abbrev pub invariant-loop-index : goal.invariant-loop-index
invariant-loop-index l = let read = read_of l.before in
    list_any is_filled (lines_from read l.self.slots.items l.fn.from.slot l.fn.from.index)
    ≡ list_any is_filled (lines_from read l.self.slots.items l.fn.from.slot l.index)
