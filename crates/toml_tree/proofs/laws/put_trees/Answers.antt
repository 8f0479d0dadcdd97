use Rattle.toml_tree.proofs.PutSame.{put_value_same, put_lines_same}
use Rattle.toml_tree.proofs.Put.{put_value_spells, put_lines_spell}
use Rattle.toml_tree.proofs.laws.put_trees.Goals as goal

pub returns-clause-same_value : goal.returns-clause-same_value
returns-clause-same_value c = put_value_same

pub returns-clause-same_lines : goal.returns-clause-same_lines
returns-clause-same_lines c = put_lines_same

pub returns-clause-value : goal.returns-clause-value
returns-clause-value c = put_value_spells

pub returns-clause-lines : goal.returns-clause-lines
returns-clause-lines c = put_lines_spell
