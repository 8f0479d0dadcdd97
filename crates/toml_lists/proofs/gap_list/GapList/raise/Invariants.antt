use Rattle.std.proofs.Common.{◌≡◌, ◌-◌, vec_len}
use Rattle.toml_lists.specs.Gaps.{items}
use Rattle.toml_lists.proofs.gap_list.GapList.raise.Given as goal

abbrev pub invariant-loop : goal.invariant-loop
invariant-loop g l = record {
  same : items l.self ≡ items l.initial.self;
  left : vec_len l.self.behind ≡ vec_len l.initial.self.behind - l.counter;
}
