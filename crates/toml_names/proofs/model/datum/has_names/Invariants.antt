use Rattle.toml_names.proofs.lemmas.model.Alike.{HasEach}
use Rattle.toml_names.proofs.model.datum.has_names.Given as goal

abbrev pub invariant-loop-name : goal.invariant-loop-name
invariant-loop-name l = HasEach l.table l.name-iterator → HasEach l.table l.other.entries
