use Rattle.std.proofs.Common.{◌≡◌, ◌++◌, drop, map, take}
use Rattle.toml_layout.specs.OpenOutlines.{entry}
use Rattle.toml_layout.specs.RenamingIn.{pair_with}
use Rattle.toml_layout.proofs.texts.Texts.rename_all.Given as goal

abbrev pub invariant-loop-index : goal.invariant-loop-index
invariant-loop-index l =
    let os = map entry l.initial.pairs.items in
    map entry l.pairs.items ≡ map (pair_with l.steps l.to) (take l.index os) ++ drop l.index os
