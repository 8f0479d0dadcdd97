use Rattle.std.proofs.Common.{[], refl, sym, append-nil}
use Rattle.std.specs.Prelude.{string_bytes}
use Rattle.toml_explain.proofs.value.push_value.Goals as goal

pub returns-in-None : goal.returns-in-None
returns-in-None c = ([], record { width = refl; text = sym (append-nil (string_bytes c.args.excerpt.now.text)) })
