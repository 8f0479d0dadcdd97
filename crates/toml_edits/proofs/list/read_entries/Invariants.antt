use Rattle.toml_edits.proofs.Lists.{AreRead}
use Rattle.toml_edits.proofs.list.read_entries.Given as goal

abbrev pub invariant-loop-index : goal.invariant-loop-index
invariant-loop-index l = AreRead l.entries l.index l.edits.items
