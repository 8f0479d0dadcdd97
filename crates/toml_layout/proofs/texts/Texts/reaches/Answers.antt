use Rattle.toml_layout.specs.Leading.{open_names}
use Rattle.toml_layout.proofs.OpenEntries.{reached_by}
use Rattle.toml_layout.proofs.texts.Texts.reaches.Goals as goal

pub returns : goal.returns
returns c = reached_by (open_names c.args.key.now) c.args.steps.now _ c.in_ok-common.ensures
