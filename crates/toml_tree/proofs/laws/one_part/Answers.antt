use Rattle.toml_tree.proofs.ExactValues.{one_value, one_keyval, one_expr}
use Rattle.toml_tree.proofs.laws.one_part.Goals as goal

pub returns-clause-value : goal.returns-clause-value
returns-clause-value c = one_value

pub returns-clause-keyval : goal.returns-clause-keyval
returns-clause-keyval c = one_keyval

pub returns-clause-expr : goal.returns-clause-expr
returns-clause-expr c = one_expr
