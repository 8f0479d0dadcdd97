use Rattle.toml_names.proofs.Proved.{inside_moves, below_is_of_its_line, inside_is_below}
use Rattle.toml_names.proofs.laws.inside.Goals as goal

pub returns : goal.returns
returns c = record { below = inside_is_below; moves = inside_moves; alone = below_is_of_its_line }
