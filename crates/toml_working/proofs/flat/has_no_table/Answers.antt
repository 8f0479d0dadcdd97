use Rattle.toml_working.proofs.FlatData.{scalar_has_none, array_has_none}
use Rattle.toml_working.proofs.flat.has_no_table.Goals as goal

pub returns-in-Scalar : goal.returns-in-Scalar
returns-in-Scalar c = λ yes. rw c.in-Scalar.is (scalar_has_none c.in-Scalar.field-0)

pub returns-in-Array : goal.returns-in-Array
returns-in-Array c = λ yes. rw c.in-Array.is (array_has_none c.in-Array.items c.deref.result.now c.deref.ensures.value (c.are_scalars.ensures yes))
