use Rattle.toml_names.proofs.Common.{◌≡◌, drop, below}
use Rattle.toml_names.proofs.lemmas.mentions.Along.{names_left}
use Rattle.toml_names.proofs.meaning.keys.follow_rest.Given as goal

abbrev pub invariant-loop-dotted : goal.invariant-loop-dotted
invariant-loop-dotted l = below l.at (names_left (drop l.dotted-index l.dotted-items)) ≡ below l.initial.at (names_left l.dotted-items)
