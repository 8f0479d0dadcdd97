use Rattle.toml_layout.proofs.HeldEntries.{set_is_made}
use Rattle.toml_layout.proofs.OneOutline.{put_is_one, taken_is_one}
use Rattle.toml_layout.proofs.laws.one_outline.Goals as goal

pub returns-clause-taken : goal.returns-clause-taken
returns-clause-taken c = taken_is_one

pub returns-clause-put : goal.returns-clause-put
returns-clause-put c = put_is_one

pub returns-clause-set : goal.returns-clause-set
returns-clause-set c = set_is_made
