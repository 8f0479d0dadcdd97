use Rattle.std.proofs.Common.{◌≡◌, ap, ◌∙◌, arith, drop}
use Rattle.toml_text.specs.Runs.{comment_len}
use Rattle.toml_text.specs.Source.{text_of}
use Rattle.toml_text.proofs.Ends.{comment_ends, comment_found}
use Rattle.toml_text.proofs.source.Source.comment_end.Goals as goal

found : (c : goal.In_default) → c.comment_len.result ≡ comment_len (drop c.args.at (text_of c.args.self))
found c = c.comment_len.ensures ∙ ap comment_len c.bytes_from.ensures

pub overflow_add-result : goal.overflow_add-result
overflow_add-result c = omega (arith, (comment_ends (text_of c.args.self) c.args.at c.comment_len.result c.args.self.is_text c.requires (found c)).fits)

pub returns-in_default-clause-longest : goal.returns-in_default-clause-longest
returns-in_default-clause-longest c = comment_found (text_of c.args.self) c.args.at c.comment_len.result c.args.self.is_text c.requires (found c) (omega arith)

pub returns-in_default-clause-bound : goal.returns-in_default-clause-bound
returns-in_default-clause-bound c = (comment_ends (text_of c.args.self) c.args.at c.comment_len.result c.args.self.is_text c.requires (found c)).bound
