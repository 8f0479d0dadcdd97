use Rattle.toml_editor.proofs.laws.standing.Goals as goal
use Rattle.toml_editor.proofs.written.StandingBare.{places_do_not_stand}
use Rattle.toml_editor.proofs.written.StandingOrder.{rules_order}

pub returns-clause-places : goal.returns-clause-places
returns-clause-places c = places_do_not_stand

pub returns-clause-order : goal.returns-clause-order
returns-clause-order c = rules_order
