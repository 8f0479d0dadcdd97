use Rattle.toml_editor.proofs.laws.standing_inserted.Goals as goal
use Rattle.toml_editor.proofs.written.BelowStands.{insert_stands_below}
use Rattle.toml_editor.proofs.written.HeadersAlone.{header_is_alone}
use Rattle.toml_editor.proofs.written.InsertStands.{insert_stands, root_comes_first}
use Rattle.toml_editor.proofs.written.OnePlace.{one_place_in_section}

pub returns-clause-root : goal.returns-clause-root
returns-clause-root c = root_comes_first

pub returns-clause-insert : goal.returns-clause-insert
returns-clause-insert c = insert_stands

pub returns-clause-below : goal.returns-clause-below
returns-clause-below c = insert_stands_below

pub returns-clause-place : goal.returns-clause-place
returns-clause-place c = one_place_in_section

pub returns-clause-alone : goal.returns-clause-alone
returns-clause-alone c = header_is_alone
