-- What a list of edits is.
use Rattle.std.specs.Prelude.{List, map}
use Rattle.toml_edits.specs.Edits.{Change, change}
use Rattle.toml_checker.specs.declared.edit_list.EditList.{EditList}

abbrev pub changes : EditList → List Change
changes list = map change list.edits.now
