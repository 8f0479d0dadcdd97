use Rattle.toml_commands.proofs.Judged.{no_text}
use Rattle.toml_commands.proofs.document.read_source.Goals as goal

pub returns-in-Err-clause-refused : goal.returns-in-Err-clause-refused
returns-in-Err-clause-refused c = λ profile. no_text profile c.args.file.now c.in-Err.fault c.text_refusal.result c.in-Err.ensures c.text_refusal.ensures
