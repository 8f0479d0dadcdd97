use Rattle.std.proofs.Common.{List, [], drop}
use Rattle.toml_tree.specs.declared.profile.Profile.{Profile}
use Rattle.toml_edits.specs.Edits.{Change}
use Rattle.toml_checker.specs.Walking.{IsGoing, IsOn}
use Rattle.toml_checker.proofs.Resting.{PairsSo}
use Rattle.toml_checker.proofs.walk.Walk.pair_all.Given as goal

abbrev pub invariant-loop-pair : goal.invariant-loop-pair
invariant-loop-pair l = record {
  going : IsGoing l.self;
  pairs : (profile : Profile) (cs : List Change) → IsOn profile cs l.fn.self [] [] → PairsSo profile cs l.fn.self l.pairs (drop l.pair-index l.pairs) l.self;
}
