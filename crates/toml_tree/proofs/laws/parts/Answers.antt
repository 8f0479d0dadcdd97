use Rattle.toml_tree.proofs.Parts.{parts_join, sizes_add, placed_front, placed_back, placed_both}
use Rattle.toml_tree.proofs.laws.parts.Goals as goal

pub returns-clause-texts : goal.returns-clause-texts
returns-clause-texts c = parts_join

pub returns-clause-sizes : goal.returns-clause-sizes
returns-clause-sizes c = sizes_add

pub returns-clause-front : goal.returns-clause-front
returns-clause-front c = placed_front

pub returns-clause-back : goal.returns-clause-back
returns-clause-back c = placed_back

pub returns-clause-both : goal.returns-clause-both
returns-clause-both c = placed_both
