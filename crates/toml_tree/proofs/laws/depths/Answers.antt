use Rattle.toml_tree.proofs.Depths.{depth_is_nesting}
use Rattle.toml_tree.proofs.laws.depths.Goals as goal

pub returns : goal.returns
returns c = depth_is_nesting
