use Rattle.std.proofs.Common.{arith}
use Rattle.toml_explain.proofs.drawing.run_of.Goals as goal

pub returns-clause-whole : goal.returns-clause-whole
returns-clause-whole c = λ narrow. absurd (omega (arith, narrow))
