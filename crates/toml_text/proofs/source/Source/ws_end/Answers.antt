use Rattle.std.proofs.Common.{◌≡◌, ap, ◌∙◌, arith, drop}
use Rattle.toml_text.specs.Bytes.{is_ws}
use Rattle.toml_text.specs.Runs.{run_len}
use Rattle.toml_text.specs.Source.{text_of}
use Rattle.toml_text.proofs.Ends.{ws_ends, ws_longest}
use Rattle.toml_text.proofs.source.Source.ws_end.Goals as goal

found : (c : goal.After-ws_len) → c.ws_len.result ≡ run_len is_ws (drop c.args.at (text_of c.args.self))
found c = c.ws_len.ensures.run ∙ ap (run_len is_ws) c.bytes_from.ensures

pub overflow_add-result : goal.overflow_add-result
overflow_add-result c = omega (arith, (ws_ends (text_of c.args.self) c.args.at c.ws_len.result c.args.self.is_text c.requires (found c)).fits)

pub returns-clause-longest : goal.returns-clause-longest
returns-clause-longest c = ws_longest (text_of c.args.self) c.args.at c.ws_len.result c.args.self.is_text c.requires (found c)

pub returns-clause-bound : goal.returns-clause-bound
returns-clause-bound c = (ws_ends (text_of c.args.self) c.args.at c.ws_len.result c.args.self.is_text c.requires (found c)).bound
