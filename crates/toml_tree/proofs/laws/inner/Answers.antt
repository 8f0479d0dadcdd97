use Rattle.toml_tree.proofs.Inner.{lines_inside, keyval_inside, value_of_keyval, values_inside, keyvals_inside}
use Rattle.toml_tree.proofs.laws.inner.Goals as goal

pub returns-clause-lines : goal.returns-clause-lines
returns-clause-lines c = lines_inside

pub returns-clause-keyval : goal.returns-clause-keyval
returns-clause-keyval c = keyval_inside

pub returns-clause-value : goal.returns-clause-value
returns-clause-value c = value_of_keyval

pub returns-clause-values : goal.returns-clause-values
returns-clause-values c = values_inside

pub returns-clause-keyvals : goal.returns-clause-keyvals
returns-clause-keyvals c = keyvals_inside
