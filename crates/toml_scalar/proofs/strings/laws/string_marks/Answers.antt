use Rattle.toml_scalar.proofs.StringLaws.{string_begins}
use Rattle.toml_scalar.proofs.strings.laws.string_marks.Goals as goal

pub returns : goal.returns
returns c = string_begins
