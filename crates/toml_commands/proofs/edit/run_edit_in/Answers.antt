use Rattle.toml_commands.proofs.Edited.{comes}
use Rattle.toml_commands.proofs.edit.run_edit_in.Goals as goal

pub returns : goal.returns
returns c = comes c.args.profile c.args.file.now c.args.edits.now c.edited.result c.of.result c.edited.ensures.good c.edited.ensures.refused c.of.ensures
