use Rattle.toml_names.proofs.Proved.{named_has_line, line_is_named}
use Rattle.toml_names.proofs.laws.named_lines.Goals as goal

pub returns : goal.returns
returns c = record { there = line_is_named; number = named_has_line }
