use Rattle.toml_tree.proofs.Views.{value_scalar, value_array, value_inline, keyval_is}
use Rattle.toml_tree.proofs.laws.views.Goals as goal

pub returns-clause-scalar : goal.returns-clause-scalar
returns-clause-scalar c = value_scalar

pub returns-clause-array : goal.returns-clause-array
returns-clause-array c = value_array

pub returns-clause-inline : goal.returns-clause-inline
returns-clause-inline c = value_inline

pub returns-clause-keyval : goal.returns-clause-keyval
returns-clause-keyval c = keyval_is
