use Rattle.toml_layout.proofs.RenameAway.{pair_renamed}
use Rattle.toml_layout.proofs.laws.renamed_pairs.Goals as goal

pub returns : goal.returns
returns c = pair_renamed
