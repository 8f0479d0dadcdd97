use Rattle.toml_names.specs.mentions.Mentions.{Named}
use Rattle.toml_tree.specs.View.{key, piece}
use Rattle.std.proofs.Common.{List}
use Rattle.toml_mentions.specs.Sought.{Counts}
use Rattle.toml_mentions.proofs.Keys.{Passing}
use Rattle.toml_mentions.proofs.seeker.Seeker.fronts.Given as goal

abbrev pub invariant-loop-dotted : goal.invariant-loop-dotted
invariant-loop-dotted l =
    (earlier : List Named) → Counts l.initial.self.tables.items l.initial.self.target.now earlier
    → Passing l.initial.self l.self earlier (key l.keys) l.dotted-index l.way (piece l.part)
