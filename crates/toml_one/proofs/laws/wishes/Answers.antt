use Rattle.toml_one.proofs.Proved.{deep_is_refused, one_edit_list, one_kept_list, sets_what_stands}
use Rattle.toml_one.proofs.laws.wishes.Goals as goal

pub returns-clause-one : goal.returns-clause-one
returns-clause-one c = one_edit_list

pub returns-clause-kept : goal.returns-clause-kept
returns-clause-kept c = one_kept_list

pub returns-clause-stands : goal.returns-clause-stands
returns-clause-stands c = sets_what_stands

pub returns-clause-deep : goal.returns-clause-deep
returns-clause-deep c = deep_is_refused
