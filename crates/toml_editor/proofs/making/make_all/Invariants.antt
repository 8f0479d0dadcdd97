use Rattle.std.proofs.Common.{map, take}
use Rattle.toml_edits.specs.Drafts.{drafted}
use Rattle.toml_edits.specs.Edits.{change}
use Rattle.toml_edits.specs.Lists.{Lead}
use Rattle.toml_editor.specs.Exact.{HoldsLast, MakesAll, PassesAll}
use Rattle.toml_working.specs.Starting.{read_of}
use Rattle.toml_editor.proofs.making.make_all.Given as goal

abbrev pub invariant-loop-index : goal.invariant-loop-index
invariant-loop-index l =
    Lead l.read.profile (map change (take l.index l.edits)) (drafted l.initial.draft) (drafted l.draft)
    × MakesAll l.read.profile (read_of l.read.before) (map change (take l.index l.edits)) l.initial.tree l.tree
    × PassesAll l.read.profile (read_of l.read.before) (map change l.edits) (drafted l.initial.draft) l.index l.initial.tree
    × HoldsLast l.read.profile (read_of l.read.before) (drafted l.initial.draft) (map change (take l.index l.edits)) l.initial.tree l.tree
