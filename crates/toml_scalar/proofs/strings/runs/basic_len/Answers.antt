use Rattle.std.proofs.Common.{◌∙◌}
use Rattle.toml_text.proofs.Proved.{basic_unmarked}
use Rattle.toml_scalar.proofs.strings.runs.basic_len.Goals as goal

pub returns-clause-run : goal.returns-clause-run
returns-clause-run c = c.unmarked_len.ensures.run ∙ basic_unmarked c.args.bytes.now
