use Rattle.toml_edits.proofs.ListFronts.{lists_carry_fronts, carried_keep_order}
use Rattle.toml_edits.proofs.OnLists.{carried_on}
use Rattle.toml_edits.proofs.Standing.{carried_stands}
use Rattle.toml_edits.proofs.ListsApart.{lists_carry_apart}
use Rattle.toml_edits.proofs.laws.carried_by_lists.Goals as goal

pub returns-clause-on : goal.returns-clause-on
returns-clause-on c = carried_on

pub returns-clause-stands : goal.returns-clause-stands
returns-clause-stands c = carried_stands

pub returns-clause-apart : goal.returns-clause-apart
returns-clause-apart c = lists_carry_apart

pub returns-clause-fronts : goal.returns-clause-fronts
returns-clause-fronts c = lists_carry_fronts

pub returns-clause-order : goal.returns-clause-order
returns-clause-order c = carried_keep_order
