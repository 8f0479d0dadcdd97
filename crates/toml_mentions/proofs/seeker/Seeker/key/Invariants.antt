use Rattle.std.proofs.Common.{◌≡◌}
use Rattle.toml_tree.specs.View.{key, piece}
use Rattle.toml_names.specs.model.Addresses.{Address}
use Rattle.toml_mentions.specs.Sought.{way_to}
use Rattle.toml_mentions.proofs.Keys.{Keying}
use Rattle.toml_mentions.proofs.seeker.Seeker.key.Given as goal

abbrev pub invariant-loop-dotted : goal.invariant-loop-dotted
invariant-loop-dotted l = (at : Address) → l.fn.table ≡ way_to l.initial.self.target.now at → Keying l.initial.self l.self at (key l.keys) l.dotted-index l.way (piece l.part)
