use Rattle.std.proofs.Common.{map, take}
use Rattle.toml_edits.specs.Drafts.{drafted}
use Rattle.toml_edits.specs.Edits.{change}
use Rattle.toml_edits.specs.Lists.{Lead}
use Rattle.toml_names.specs.model.Data.{kind_at}
use Rattle.toml_checker.proofs.facts.data_after.Given as goal

abbrev pub invariant-loop-edit : goal.invariant-loop-edit
invariant-loop-edit l = Lead l.fn.profile (map change (take l.edit-index l.edits)) (kind_at l.fn.old.root) (drafted l.draft)
