use Rattle.std.proofs.Common.{◌≡◌}
use Rattle.toml_lists.specs.Gaps.{items}
use Rattle.toml_lists.proofs.gap_list.GapList.lower.Given as goal

abbrev pub invariant-loop : goal.invariant-loop
invariant-loop g l = items l.self ≡ items l.initial.self
