use Rattle.toml_edits.proofs.WalkSeen.{seen_is_carried}
use Rattle.toml_edits.proofs.laws.seen.Goals as goal

pub returns : goal.returns
returns c = seen_is_carried
