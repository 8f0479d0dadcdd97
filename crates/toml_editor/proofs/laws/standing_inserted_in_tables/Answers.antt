use Rattle.toml_editor.proofs.laws.standing_inserted_in_tables.Goals as goal
use Rattle.toml_editor.proofs.written.DottedKeys.{dotted_is_keyed}
use Rattle.toml_editor.proofs.written.DottedStands.{insert_stands_among}
use Rattle.toml_editor.proofs.written.ImpliedStands.{implied_is_below, insert_stands_ahead}
use Rattle.toml_editor.proofs.written.OnePlaceDotted.{one_place_among}

pub returns-clause-among : goal.returns-clause-among
returns-clause-among c = insert_stands_among

pub returns-clause-place : goal.returns-clause-place
returns-clause-place c = one_place_among

pub returns-clause-keyed : goal.returns-clause-keyed
returns-clause-keyed c = dotted_is_keyed

pub returns-clause-ahead : goal.returns-clause-ahead
returns-clause-ahead c = insert_stands_ahead

pub returns-clause-below : goal.returns-clause-below
returns-clause-below c = implied_is_below
