use Rattle.toml_commands.proofs.Applied.{comes}
use Rattle.toml_commands.proofs.apply.run_apply_in.Goals as goal

pub returns : goal.returns
returns c = comes c.args.layout c.args.profile c.args.file.now c.args.edits.now c.applied.result c.of.result c.applied.ensures.good c.applied.ensures.refused c.of.ensures
