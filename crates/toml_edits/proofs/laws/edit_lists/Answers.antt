use Rattle.toml_edits.proofs.OneList.{one_edit_list, bad_list_is_none}
use Rattle.toml_edits.proofs.laws.edit_lists.Goals as goal

pub returns-clause-one : goal.returns-clause-one
returns-clause-one c = one_edit_list

pub returns-clause-bad : goal.returns-clause-bad
returns-clause-bad c = bad_list_is_none
