use Rattle.toml_editor.proofs.laws.standing_set.Goals as goal
use Rattle.toml_editor.proofs.written.SetStanding.{set_stands}
use Rattle.toml_editor.proofs.written.StandingHas.{value_stands}
use Rattle.toml_editor.proofs.written.StandingThere.{standing_is_value}

pub returns-clause-value : goal.returns-clause-value
returns-clause-value c = value_stands

pub returns-clause-named : goal.returns-clause-named
returns-clause-named c = standing_is_value

pub returns-clause-set : goal.returns-clause-set
returns-clause-set c = set_stands
