use Rattle.std.proofs.Common.{rules}
use Rattle.toml_scalar.proofs.Dates.{shape_digits}
use Rattle.toml_scalar.proofs.moment.is_date.Goals as goal

pub two_digits-requires-then-is_date_shape-clause-tens : goal.two_digits-requires-then-is_date_shape-clause-tens
two_digits-requires-then-is_date_shape-clause-tens c = (shape_digits c.args.run.now (search rules)).y3

pub two_digits-requires-then-is_date_shape-clause-ones : goal.two_digits-requires-then-is_date_shape-clause-ones
two_digits-requires-then-is_date_shape-clause-ones c = (shape_digits c.args.run.now (search rules)).y4

pub returns-then-is_date_shape : goal.returns-then-is_date_shape
returns-then-is_date_shape c =
    let e = (shape_digits c.args.run.now (search rules)).date in
    cc
