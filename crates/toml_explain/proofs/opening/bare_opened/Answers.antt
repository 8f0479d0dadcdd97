use Rattle.std.specs.Prelude.{string_bytes}
use Rattle.toml_explain.proofs.Opened.{bare_opens}
use Rattle.toml_explain.proofs.opening.bare_opened.Goals as goal

pub returns : goal.returns
returns c = bare_opens string_bytes c.args.word.now c.args.rest.now c.behind_word.result c.behind_word.ensures
