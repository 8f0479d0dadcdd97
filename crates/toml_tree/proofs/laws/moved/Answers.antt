use Rattle.toml_tree.proofs.MovedBack.{moved_value_spells, moved_keyval_spells, moved_expr_spells}
use Rattle.toml_tree.proofs.laws.moved.Goals as goal

pub returns-clause-value : goal.returns-clause-value
returns-clause-value c = moved_value_spells

pub returns-clause-keyval : goal.returns-clause-keyval
returns-clause-keyval c = moved_keyval_spells

pub returns-clause-expr : goal.returns-clause-expr
returns-clause-expr c = moved_expr_spells
