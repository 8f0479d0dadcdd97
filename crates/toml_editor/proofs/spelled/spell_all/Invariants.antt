use Rattle.std.proofs.Common.{map, take}
use Rattle.toml_edits.specs.Edits.{change}
use Rattle.toml_editor.specs.SpelledEdits.{AreSpelled}
use Rattle.toml_editor.proofs.spelled.spell_all.Given as goal

abbrev pub invariant-loop-edit : goal.invariant-loop-edit
invariant-loop-edit l = AreSpelled (map change (take l.edit-index l.edits)) l.list.items
