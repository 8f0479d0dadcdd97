use Rattle.std.proofs.Common.{ap, ◌∙◌}
use Rattle.toml_text.specs.Runs.{newline_len}
use Rattle.toml_text.specs.Source.{text_of}
use Rattle.toml_text.proofs.Ends.{newline_ends}
use Rattle.toml_text.proofs.source.Source.newline_end.Goals as goal

pub returns-in_default-clause-bound : goal.returns-in_default-clause-bound
returns-in_default-clause-bound c = (newline_ends (text_of c.args.self) c.args.at c.newline_len.result c.args.self.is_text c.requires (c.newline_len.ensures.value ∙ ap newline_len c.bytes_from.ensures)).bound
